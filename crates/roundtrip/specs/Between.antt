-- A good command among the devices of a chain (document 01, "The twin"): the line as the first m of them leave it, and what they hold then.
use Rattle.std.specs.Prelude.{◌≡◌, Bool, true, false, cond, ◌&&◌, not, ◌⊎◌, List, [], ◌∷◌, ℕ, ◌≤◌, ◌<◌, ltb, eqb, get_or}
use Rattle.ground.specs.Sweep.{tabulated}
use Rattle.lines.specs.Line.{line_of}
use Rattle.questions.specs.Question.{write_device, read_device, by_kind, by_form, good_question, covers}
use Rattle.questions.specs.Bytes.{on_wire}
use Rattle.questions.specs.declared.question.Question.{Question}
use Rattle.underway.specs.OnTheWay.{on_the_way}
use Rattle.twin.specs.Step.{registers_of}

-- what register r of device k holds
abbrev pub held : (memory : List ℕ) → (k r : ℕ) → ℕ
held memory k r = get_or (registers_of memory k) r 0

-- how many of the first m devices have acted on a command for device a: one, once it has had it
abbrev pub one_of : (a m : ℕ) → ℕ
one_of a m = cond (ltb a m) 1 0

-- how much they have added to the alive byte
abbrev pub acted_at : (kind : ℕ) → Question → (m : ℕ) → ℕ
acted_at kind q m = by_kind kind 0 m (one_of q.device m) m (one_of q.device m)

unfoldable pub acted : Question → (m : ℕ) → ℕ
acted q m = acted_at q.kind q m

-- the values that they have put into a read, in address order
abbrev pub put_at : (kind : ℕ) → Question → (m : ℕ) → (memory : List ℕ) → List ℕ
put_at kind q m memory =
    by_kind kind [] [] []
    (tabulated (λ (k : ℕ). held memory k q.reg) m 0)
    (cond (ltb q.device m) (held memory q.device q.reg ∷ []) [])

unfoldable pub put_in : Question → (m : ℕ) → (memory : List ℕ) → List ℕ
put_in q m memory = put_at q.kind q m memory

-- the line between: the command as the first m devices leave it
abbrev pub line_between : Question → (m : ℕ) → (memory : List ℕ) → List ℕ
line_between q m memory = line_of (on_the_way q m (acted q m) (on_wire (put_in q m memory)))

-- what comes back from a chain of n: HELLOALL's count, nothing for a write, the registers as they stand for a read, in address order
abbrev pub brought_at : (kind : ℕ) → Question → (n : ℕ) → (memory : List ℕ) → List ℕ
brought_at kind q n memory =
    by_kind kind (n ∷ []) [] []
    (tabulated (λ (k : ℕ). held memory k q.reg) n 0)
    (held memory q.device q.reg ∷ [])

unfoldable pub brought_back : Question → (n : ℕ) → (memory : List ℕ) → List ℕ
brought_back q n memory = brought_at q.kind q n memory

-- a write reaches register r of device k; register 0x00 keeps its value, and reads and HELLOALL change none
abbrev pub write_reaches : Question → (k r : ℕ) → Bool
write_reaches q k r = covers q k && eqb r q.reg && not (eqb r 0x00)

unfoldable pub reaches : Question → (k r : ℕ) → Bool
reaches q k r = by_form q.kind false (write_reaches q k r) false

-- the registers of a chain of n after a question: a write's value where it reaches, all else as it was
abbrev pub ChangedBy : (q : Question) (n : ℕ) (memory after : List ℕ) → Type 0
ChangedBy q n memory after = (k r : ℕ) → k < n → held after k r ≡ cond (reaches q k r) q.value (held memory k r)

-- a good question that device k of a chain of n acts on: one put to all, or to this device
pub record For (q : Question) (n k : ℕ) : Type 0 where
  pub good : good_question q ≡ true
  pub chain : 1 ≤ q.kind → q.n ≡ n
  pub within : k < n
  pub most : n ≤ 32
  pub to : (q.kind ≡ write_device) ⊎ (q.kind ≡ read_device) → q.device ≡ k
