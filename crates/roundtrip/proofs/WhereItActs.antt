-- What a step gives where device k acts, and what shows that it acts: it is a place of the chain, and the line is as it would be met.
use Rattle.std.specs.Prelude.{Option, Some, None}
use mathlib.Core.Path.{◌≡◌, sym, ap, ap₂, ◌∙◌}
use mathlib.Core.Bool.{Bool, true, false, cond, ◌&&◌}
use mathlib.Core.Logic.{⊎_elim}
use mathlib.Core.List.{List}
use Prim.Native.Nat.{ℕ, ◌≤◌, ◌<◌}
use native.Mathlib.Omega.{arith}
use lib.Dec.{eqb}
use lib.ListN.{get_or}
use borrow.Author.Tests.{ne_eqb, le-leb, lt-ltb}
use Rattle.ground.specs.Same.{same}
use Rattle.ground.proofs.Same.{same_self}
use Rattle.ground.proofs.Test.{below_or_not}
use Rattle.questions.specs.declared.question.Question.{Question}
use Rattle.hearing.specs.Hear.{is_place, heard}
use Rattle.underway.specs.OnTheWay.{on_the_way}
use Rattle.passage.specs.Acting.{met, acts, handed, handed_on}
use Rattle.passage.specs.Pass.{storing, store_of, change_asked, change_of}
use Rattle.passage.specs.declared.pass.Store.{Store}
use Rattle.underway.proofs.Way.{way_write}
use Rattle.roundtrip.specs.Between.{For}
use Rattle.roundtrip.proofs.Alike.{Alike}

-- a write carries no values: what is handed with it makes no difference
pub write_alone : (q : Question) (count added : ℕ) (wire wire' : List ℕ) → 1 ≤ q.kind → q.kind ≤ 2 → on_the_way q count added wire ≡ on_the_way q count added wire'
write_alone q count added wire wire' some low = way_write q count added wire some low ∙ sym (way_write q count added wire' some low)

pub place_of : (q : Question) (n k : ℕ) → For q n k → is_place n k ≡ true
place_of q n k f =
    let least : 1 ≤ n = omega (arith, f.within) in
    ap₂ (λ (a b : Bool). a && b) (ap₂ (λ (a b : Bool). a && b) (le-leb 1 n least) (le-leb n 32 f.most)) (lt-ltb k n f.within)

-- what a question asks of the registers, told by kind, register and value
pub change_alike : (q q' : Question) (added : ℕ) → Alike q q' added → change_asked q' ≡ change_asked q
change_alike q q' added a =
    ap (λ (k : ℕ). cond (eqb k 1) (store_of q') (cond (eqb k 2) (store_of q') None)) a.kind ∙ ⊎_elim
    (λ (low : q.kind < 3).
    let stored : store_of q' ≡ store_of q = ap₂ (λ (r v : ℕ). cond (eqb r 0x00) None (Some (storing r v))) a.reg (a.value (omega arith)) in
    ap (λ (c : Option Store). cond (eqb q.kind 1) c (cond (eqb q.kind 2) c None)) stored)
    (λ (reads : 3 ≤ q.kind). ap₂ (λ (t u : Bool). cond t (store_of q') (cond u (store_of q') None)) (not_one reads) (not_two reads)
    ∙ sym (ap₂ (λ (t u : Bool). cond t (store_of q) (cond u (store_of q) None)) (not_one reads) (not_two reads)))
    (below_or_not q.kind 3)
  where
    not_one : 3 ≤ q.kind → eqb q.kind 1 ≡ false
    not_one reads = ne_eqb q.kind 1 (λ e. absurd (omega arith))

    not_two : 3 ≤ q.kind → eqb q.kind 2 ≡ false
    not_two reads = ne_eqb q.kind 2 (λ e. absurd (omega arith))

-- what the step gives where the device acts
pub record Acts (n k : ℕ) (line after : List ℕ) (asks : Question) (registers : List ℕ) : Type 0 where
  pub acted : acts n k line ≡ true
  pub hands : handed_on n k line registers ≡ after
  pub changes : change_of n k line ≡ change_asked asks

-- from the test and the line handed on
pub acts_with : (n k : ℕ) (line after : List ℕ) (q : Question) (registers : List ℕ) → is_place n k ≡ true → met n k line ≡ line
    → handed n k line (get_or registers (heard n k line).reg 0) ≡ after → change_asked (heard n k line) ≡ change_asked q → Acts n k line after q registers
unfolding acts handed_on change_of
acts_with n k line after q registers place is hands asks =
    let yes_acts : acts n k line ≡ true = ap₂ (λ (a b : Bool). a && b) place (ap (same line) is ∙ same_self line) in
    record {
      acted = yes_acts;
      hands = ap (λ (t : Bool). cond t (handed n k line (get_or registers (heard n k line).reg 0)) line) yes_acts ∙ hands;
      changes = ap (λ (t : Bool). cond t (change_asked (heard n k line)) None) yes_acts ∙ asks;
    }
