-- EACH STEP BY ITS RULE (document 01, "The twin"). Claimed of every chain of 1 to 32 devices, of each device of it, of every line and all
-- registers, and of every answer that meets `step`'s contract: on a command for it, as the devices before would have left it, the device hands
-- on that command with HELLOALL's last byte and the alive byte one more and its own value directly after the register byte, and of its registers
-- it changes those that a write reaches, to the value written, and no others; any other line passes unchanged, and no register changes; no other
-- device's registers ever change; and the line handed on is as long as the line taken.
use Rattle.std.specs.Prelude.{Result, Ok, ⊤, ◌≡◌, cond, List, ◌++◌, ℕ, suc, ◌*◌, ◌≤◌, ◌<◌, length}
use Rattle.lines.specs.Line.{line_of}
use Rattle.lines.specs.Write.{at_front}
use Rattle.questions.specs.Bytes.{on_wire, low_high}
use Rattle.underway.specs.OnTheWay.{on_the_way}
use Rattle.twin.specs.Step.{registers_of, StepDone}
use Rattle.twin.specs.declared.step.StepRefusal.{StepRefusal}
use Rattle.roundtrip.specs.Between.{held, reaches}
use Rattle.roundtrip.specs.Commands.{CommandFor}

-- the line that device k hands on of a command for it: one device more, one added to the alive byte, its own value before the others'
abbrev pub command_handed_on : (k : ℕ) (memory : List ℕ) {n : ℕ} {line : List ℕ} → CommandFor n k line → List ℕ
command_handed_on k memory c =
    line_of (on_the_way c.question (suc k) 1 (low_high (held memory k c.question.reg) ++ on_wire c.values))

-- what a step of device k leaves of a line and of all registers
pub record ByItsRule (n k : ℕ) (memory memory_left line out out_after : List ℕ) (r : Result ⊤ StepRefusal) : Type 0 where
  pub says : r ≡ Ok tt
  pub handed : List ℕ
  pub stands : out_after ≡ at_front handed out
  pub equal_length : length handed ≡ length line
  pub registers : length memory_left ≡ length memory
  pub on_command : (c : CommandFor n k line)
      → (handed ≡ command_handed_on k memory c)
      × ((x : ℕ) → held memory_left k x ≡ cond (reaches c.question k x) c.question.value (held memory k x))
  pub on_another_line : (CommandFor n k line → ⊥) → (handed ≡ line) × (memory_left ≡ memory)
  pub other_devices : (j : ℕ) → (j ≡ k → ⊥) → registers_of memory_left j ≡ registers_of memory j

abbrev pub EachStep : Type 0
EachStep =
    (n k : ℕ) (memory memory_left line out out_after : List ℕ) (r : Result ⊤ StepRefusal)
    → 1 ≤ n → n ≤ 32 → k < n → length memory ≡ 256 * n → length line ≤ length out
    → StepDone n k memory memory_left line out out_after r
    → ByItsRule n k memory memory_left line out out_after r
