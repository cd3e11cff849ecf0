-- Power-on, turned away and done: what the two ways through the call leave.
use Rattle.std.specs.Prelude.{Result, Ok, Err, ⊤}
use mathlib.Core.Path.{◌≡◌, sym, ap, ◌∙◌}
use mathlib.Core.Bool.{Bool, true, false, cond, ◌&&◌}
use mathlib.Core.List.{List}
use Prim.Native.Nat.{ℕ, ◌*◌, ◌<◌}
use native.Mathlib.Omega.{arith}
use lib.Dec.{eqb, leb}
use lib.ListN.{length}
use borrow.Author.Tests.{eqb-true}
use Rattle.ground.specs.Sweep.{tabulated}
use Rattle.ground.proofs.Test.{and_right}
use Rattle.lines.specs.Write.{left_by}
use Rattle.registers.specs.Memory.{is_chain, power_on_figure, fresh, power_on_memory, powered_of, powered_number, PoweredOn}
use Rattle.registers.specs.declared.NoChain.{NoChain}

-- how many words the memory of a chain has
pub chain_words : (n words : ℕ) → is_chain n words ≡ true → words ≡ 256 * n
chain_words n words chain = eqb-true words (256 * n) (and_right (leb 1 n && leb n 32) (eqb words (256 * n)) chain)

module _ (n : ℕ) (memory : List ℕ) where
  powered_by : (chain : Bool) → is_chain n (length memory) ≡ chain → powered_of n memory ≡ cond chain (Ok tt) (Err (record {}))
  unfolding powered_of
  powered_by chain e = ap (λ (t : Bool). cond t (Ok tt) (Err (record {}))) e

  leaves_by : (p : Result ⊤ NoChain) → powered_of n memory ≡ p → left_by (powered_number (powered_of n memory)) (power_on_memory n) memory ≡ left_by (powered_number p) (power_on_memory n) memory
  leaves_by p is = ap (λ (p : Result ⊤ NoChain). left_by (powered_number p) (power_on_memory n) memory) is

  pub turned_away : is_chain n (length memory) ≡ false → PoweredOn n memory memory (Err (record {}))
  turned_away chain = let is = powered_by false chain in record { says = sym is; leaves = sym (leaves_by (Err (record {})) is) }

  pub filled : (after : List ℕ) → is_chain n (length memory) ≡ true → after ≡ tabulated fresh (length memory) 0 → PoweredOn n memory after (Ok tt)
  filled after chain all =
      let is = powered_by true chain in
      record {
        says = sym is;
        leaves = all ∙ ap (λ (words : ℕ). tabulated fresh words 0) (chain_words n (length memory) chain) ∙ sym (leaves_by (Ok tt) is);
      }

  -- what power-on leaves of a chain's memory
  pub switched_on : (after : List ℕ) (r : Result ⊤ NoChain) → PoweredOn n memory after r → is_chain n (length memory) ≡ true → after ≡ power_on_memory n
  switched_on after r done chain = done.leaves ∙ leaves_by (Ok tt) (powered_by true chain)

-- power-on's figures are registers' values
either_lt : (t : Bool) (a b : ℕ) → a < 65536 → b < 65536 → cond t a b < 65536
either_lt true a b ha hb = ha
either_lt false a b ha hb = hb

pub figure_lt : (r : ℕ) → power_on_figure r < 65536
unfolding power_on_figure
figure_lt r =
    either_lt (eqb r 0x00) 0x8236 _ (omega arith)
    (either_lt (eqb r 0x02) 0x8000 _ (omega arith)
    (either_lt (eqb r 0x0A) 0x0F0F _ (omega arith)
    (either_lt (eqb r 0x10) 0x0002 _ (omega arith)
    (either_lt (eqb r 0x1E) 0x000C _ (omega arith)
    (either_lt (eqb r 0x40) 0xFFFC _ (omega arith)
    (either_lt (eqb r 0x42) 0xFFFC _ (omega arith)
    (either_lt (eqb r 0x48) 0xFFFC _ (omega arith)
    (either_lt (eqb r 0x4A) 0xFFF0 0x0000 (omega arith) (omega arith)))))))))
