-- Each step by its rule: the twin's and the round trip's laws on one hop, said of the call.
use Rattle.std.specs.Prelude.{Option, Some, None}
use mathlib.Core.Path.{◌≡◌, refl, ap, ◌∙◌}
use mathlib.Core.Bool.{true, ◌&&◌}
use mathlib.Core.List.{List}
use Prim.Native.Nat.{ℕ, ◌+◌, ◌*◌, ◌≤◌}
use native.Mathlib.Omega.{arith}
use lib.Dec.{ltb}
use lib.ListN.{length, get_or, length-set}
use borrow.Author.Tests.{le-leb, lt-ltb, eq-eqb}
use Rattle.registers.specs.Memory.{is_chain}
use Rattle.passage.specs.Pass.{change_of}
use Rattle.passage.specs.declared.pass.Store.{Store}
use Rattle.twin.specs.Step.{registers_of, with_change, chain_with, hop}
use Rattle.twin.proofs.Registers.{hop_other}
use Rattle.twin.proofs.Stepping.{says_handed, leaves_line, leaves_memory, hop_length}
use Rattle.roundtrip.proofs.NothingByAccident.{by_its_rule, no_command_no_change}
use Rattle.roundtrip.proofs.RegistersAfter.{file_length, by_rule}
use Rattle.promises.specs.EachStep.{EachStep}

-- row 15 does not turn such a chain away
pub is_a_chain : (n : ℕ) (memory : List ℕ) → 1 ≤ n → n ≤ 32 → length memory ≡ 256 * n → is_chain n (length memory) ≡ true
is_a_chain n memory least most words = simp (le-leb 1 n least, le-leb n 32 most, eq-eqb (length memory) (256 * n) words)

-- no device changes how many registers there are
registers_kept : (memory : List ℕ) (k : ℕ) (c : Option Store) → length (with_change memory k c) ≡ length memory
registers_kept memory k None = refl
registers_kept memory k (Some s) = length-set memory (256 * k + s.reg) s.value

pub each_step : EachStep
each_step n k memory memory_left line out out_after r least most within words room done =
    let s = chain_with memory line in
    let chain = is_a_chain n memory (omega arith) (omega arith) (omega arith) in
    let fits : (is_chain n (length memory) && ltb k n) ≡ true = simp (chain, lt-ltb k n (omega arith)) in
    let left = leaves_memory s (hop n k s) out out_after memory_left r _ done fits room in
    record {
      says = says_handed s (hop n k s) out out_after memory_left r _ done fits room;
      handed = (hop n k s).line;
      stands = leaves_line s (hop n k s) out out_after memory_left r _ done fits room;
      equal_length = hop_length n k s;
      registers = ap length left ∙ registers_kept memory k (change_of n k line);
      on_command = λ c.
          let rule = by_its_rule n k s c in
          let file = file_length memory n k words (omega arith) in (
            rule.0,
            λ x. ap (λ (l : List ℕ). get_or l x 0) (ap (λ (m : List ℕ). registers_of m k) left ∙ rule.1)
                ∙ by_rule c.question (registers_of memory k) file c.sent.reg x n k c.put,
          );
      on_another_line = λ none. let same = no_command_no_change n k s none in (same.0, left ∙ same.1);
      other_devices = λ j differ. ap (λ (m : List ℕ). registers_of m j) left ∙ hop_other n k s j differ;
    }
