-- One device's step on its own registers and a line (document 01, "The twin"): what it leaves on the line, and what becomes of its registers.
use Rattle.std.specs.Prelude.{◌≡◌, cond, List, ℕ, eqb, set, Option, Some, None}
use Rattle.questions.specs.Question.{write_all, write_device}
use Rattle.questions.specs.declared.question.Question.{Question}
use Rattle.hearing.specs.Hear.{heard}
use Rattle.passage.specs.Acting.{acts, handed_on}
use Rattle.passage.specs.declared.pass.Store.{Store}

-- a register takes a value
abbrev pub storing : (reg value : ℕ) → Store
storing r v = record { reg = r; value = v }

-- a write stores its value; register 0x00 answers a write but keeps its value
abbrev pub store_of : Question → Option Store
store_of q = cond (eqb q.reg 0x00) None (Some (storing q.reg q.value))

-- only the two writes change a register
abbrev pub change_asked : Question → Option Store
change_asked q = cond (eqb q.kind write_all) (store_of q) (cond (eqb q.kind write_device) (store_of q) None)

-- what becomes of the registers of device k
unfoldable pub change_of : (n k : ℕ) (line : List ℕ) → Option Store
change_of n k line = cond (acts n k line) (change_asked (heard n k line)) None

-- the registers after a change
abbrev pub changed : List ℕ → Option Store → List ℕ
changed registers None = registers
changed registers (Some s) = set registers s.reg s.value

-- what `pass` says and leaves
pub record Passed (n k : ℕ) (registers before after : List ℕ) (r : Option Store) : Type 0 where
  pub says : r ≡ change_of n k before
  pub leaves : after ≡ handed_on n k before registers
