-- The beginning of the way: before any device has had it, the line between is the command.
use mathlib.Core.Path.{◌≡◌, refl, sym, ap, ap₂, ◌∙◌}
use mathlib.Core.Bool.{Bool, false, cond}
use mathlib.Core.List.{List, [], ◌∷◌}
use Prim.Native.Nat.{ℕ, ◌≤◌}
use native.Mathlib.Omega.{arith}
use lib.Dec.{ltb}
use borrow.Author.Tests.{le-ltb}
use Rattle.lines.specs.Line.{line_of}
use Rattle.packing.specs.Words.{as_bytes}
use Rattle.questions.specs.Bytes.{on_wire, command_bytes}
use Rattle.commands.specs.Command.{command_line}
use Rattle.questions.specs.declared.question.Question.{Question}
use Rattle.questions.proofs.ByKind.{each_kind}
use Rattle.underway.specs.OnTheWay.{on_the_way}
use Rattle.roundtrip.specs.Between.{held, one_of, acted_at, acted, put_at, put_in, line_between}

abbrev pub one_if : Bool → ℕ
one_if t = cond t 1 0

nobody : (d : ℕ) → ltb d 0 ≡ false
nobody d = le-ltb d 0 (omega arith)

-- nobody has acted, and nothing is put in
none_acted : (q : Question) → q.kind ≤ 4 → acted q 0 ≡ 0
unfolding acted
none_acted q kind =
    let none : one_of q.device 0 ≡ 0 = ap one_if (nobody q.device) in
    each_kind (λ (x : ℕ). acted_at x q 0 ≡ 0) refl refl none refl none q.kind kind

none_put : (q : Question) (memory : List ℕ) → q.kind ≤ 4 → put_in q 0 memory ≡ []
unfolding put_in
none_put q memory kind =
    let one = held memory q.device q.reg in
    each_kind (λ (x : ℕ). put_at x q 0 memory ≡ []) refl refl refl refl
    (ap (λ (t : Bool). cond t (one ∷ []) []) (nobody q.device)) q.kind kind

unsent : (q : Question) → command_bytes q ≡ on_the_way q 0 0 (on_wire [])
unfolding command_bytes on_the_way on_wire as_bytes
unsent q = refl

-- before any device has had it, the line is the command
pub command_first : (q : Question) (memory : List ℕ) → q.kind ≤ 4 → command_line q ≡ line_between q 0 memory
command_first q memory kind =
    ap line_of (unsent q ∙ sym (ap₂ (λ (x : ℕ) (l : List ℕ). on_the_way q 0 x (on_wire l)) (none_acted q kind) (none_put q memory kind)))
