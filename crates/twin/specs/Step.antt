-- One device of a chain stepped, those from one place to another, and the whole chain (document 01, "The twin" and row 15).
use Rattle.std.specs.Prelude.{◌≡◌, Bool, cond, ◌&&◌, List, ◌++◌, ℕ, zero, suc, ◌+◌, ◌*◌, leb, ltb, length, take, drop, set, Option, Some, None, Result, Ok, Err, ⊤}
use Rattle.lines.specs.Write.{at_front, left_by}
use Rattle.passage.specs.Acting.{handed_on}
use Rattle.passage.specs.Pass.{change_of}
use Rattle.passage.specs.declared.pass.Store.{Store}
use Rattle.numbers.specs.Numbers.{answer_number}
use Rattle.registers.specs.Memory.{is_chain}
use Rattle.twin.specs.declared.step.StepRefusal.{StepRefusal}
use Rattle.twin.specs.declared.step.StepRefusal.TheVariants.{Twin, Room}

-- the registers of device k: register r is word 256k + r of the memory
abbrev pub registers_of : (memory : List ℕ) → (k : ℕ) → List ℕ
registers_of memory k = take 256 (drop (256 * k) memory)

-- the memory with a register of device k changed
abbrev pub with_change : (memory : List ℕ) → (k : ℕ) → Option Store → List ℕ
with_change memory k None = memory
with_change memory k (Some s) = set memory (256 * k + s.reg) s.value

-- the chain as it stands between two steps: all registers, and the line
pub record Chain : Type 0 where
  pub memory : List ℕ
  pub line : List ℕ

abbrev pub chain_with : (memory line : List ℕ) → Chain
chain_with memory line = record { memory = memory; line = line }

-- device k takes the line as it stands, and hands it on
abbrev pub hop : (n k : ℕ) → Chain → Chain
hop n k s = chain_with (with_change s.memory k (change_of n k s.line)) (handed_on n k s.line (registers_of s.memory k))

-- a device stepped on the words at the front of the output, the rest as it was
pub record Hopped (n k words : ℕ) (memory memory_left out out_after : List ℕ) : Type 0 where
  pub remembers : memory_left ≡ (hop n k (chain_with memory (take words out))).memory
  pub leaves : out_after ≡ (hop n k (chain_with memory (take words out))).line ++ drop words out

-- the devices of n from `from` on that stand before `to`, in address order
unfoldable pub hops_from : (n from to : ℕ) → Chain → Chain
hops_from n from zero s = s
hops_from n from (suc k) s = cond (leb from k) (hop n k (hops_from n from k s)) s

-- the first m devices of n
abbrev pub hops : (n m : ℕ) → Chain → Chain
hops n m s = hops_from n 0 m s

-- devices from .. to - 1 of a chain: row 15, and to is neither below from nor above n; where from is to, none of the devices
abbrev pub is_span : (n from to words : ℕ) → Bool
is_span n from to words = is_chain n words && leb from to && leb to n

-- the answer: TWIN is checked before ROOM
unfoldable pub stepped_of : (fits : Bool) (line out : List ℕ) → Result ⊤ StepRefusal
stepped_of fits line out = cond fits (cond (leb (length line) (length out)) (Ok tt) (Err Room)) (Err Twin)

-- the rows: 15 TWIN, 2 ROOM
abbrev pub step_refusal_number : StepRefusal → ℕ
step_refusal_number Twin = 15
step_refusal_number Room = 2

-- document 01's number of an answer: 0 where the line was handed on, 15 TWIN, 2 ROOM
abbrev pub stepped_number : Result ⊤ StepRefusal → ℕ
stepped_number = answer_number step_refusal_number

-- a chain, its memory, and devices stepped: what a call says and leaves
pub record Done (fits : Bool) (before after : Chain) (out out_after memory_left : List ℕ) (r : Result ⊤ StepRefusal) : Type 0 where
  pub says : r ≡ stepped_of fits before.line out
  pub leaves : out_after ≡ left_by (stepped_number (stepped_of fits before.line out)) (at_front after.line out) out
  pub remembers : memory_left ≡ left_by (stepped_number (stepped_of fits before.line out)) after.memory before.memory

-- `step`: one device alone, which must be in the chain
abbrev pub StepDone : (n k : ℕ) (memory memory_left line out out_after : List ℕ) (r : Result ⊤ StepRefusal) → Type 0
StepDone n k memory memory_left line out out_after r =
    Done (is_chain n (length memory) && ltb k n) (chain_with memory line) (hop n k (chain_with memory line)) out out_after memory_left r

-- `run_span`: devices from .. to - 1 once each; none of them, and the line is handed on as it came
abbrev pub SpanDone : (n from to : ℕ) (memory memory_left line out out_after : List ℕ) (r : Result ⊤ StepRefusal) → Type 0
SpanDone n from to memory memory_left line out out_after r =
    Done (is_span n from to (length memory)) (chain_with memory line) (hops_from n from to (chain_with memory line)) out out_after memory_left r

-- `run_chain`: every device once
abbrev pub ChainDone : (n : ℕ) (memory memory_left line out out_after : List ℕ) (r : Result ⊤ StepRefusal) → Type 0
ChainDone n memory memory_left line out out_after r =
    Done (is_chain n (length memory)) (chain_with memory line) (hops n n (chain_with memory line)) out out_after memory_left r
