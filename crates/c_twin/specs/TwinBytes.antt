-- The twin over bytes (document 01, "The twin" and "The C side"): the definitions of the twin on the words of the bytes. Device k's register r
-- is bytes 512k + 2r and 512k + 2r + 1 of the memory, low first.
use Rattle.std.specs.Prelude.{◌≡◌, Bool, cond, ◌&&◌, List, ℕ, ◌/◌, ◌%◌, leb, ltb, eqb, length}
use Rattle.lines.specs.Write.{at_front, left_by}
use Rattle.packing.specs.Words.{words_of, as_bytes, line_on}
use Rattle.registers.specs.Memory.{chain_of, power_on_memory}
use Rattle.twin.specs.Step.{Chain, chain_with, hop, hops}

-- row 15: 1 to 32 devices, and exactly 512 bytes for each
abbrev pub chain_in : (n bytes : ℕ) → Bool
chain_in = chain_of 512

-- power-on's number: 15 for TWIN, else 0
abbrev pub power_number : (n bytes : ℕ) → ℕ
power_number n bytes = cond (chain_in n bytes) 0 15

-- what `power_on_bytes` says and leaves
pub record PowerBytesDone (n : ℕ) (before after : List ℕ) (r : ℕ) : Type 0 where
  pub says : r ≡ power_number n (length before)
  pub leaves : after ≡ left_by (power_number n (length before)) (as_bytes (power_on_memory n)) before

-- the number: TWIN, which alone comes before ROOM; ROOM, the output's whole words against the line's; LENGTH, for an odd number of bytes
unfoldable pub bytes_number : (fits : Bool) (line out : List ℕ) → ℕ
bytes_number fits line out = cond fits (cond (leb (length line / 2) (length out / 2)) (cond (eqb (length line % 2) 0) 0 3) 2) 15

-- the chain before a call, on words: with a line of any length
abbrev pub chain_on : (memory line : List ℕ) → Chain
chain_on memory line = chain_with (words_of memory) (line_on line)

-- a chain, its memory, and devices stepped: what a call says and leaves
pub record BytesDone (fits : Bool) (after : Chain) (memory memory_left line out out_after : List ℕ) (r : ℕ) : Type 0 where
  pub says : r ≡ bytes_number fits line out
  pub remembers : memory_left ≡ left_by (bytes_number fits line out) (as_bytes after.memory) memory
  pub leaves : out_after ≡ left_by (bytes_number fits line out) (at_front (as_bytes after.line) out) out

-- `step_bytes`: one device alone, which must be in the chain
abbrev pub StepBytesDone : (n k : ℕ) (memory memory_left line out out_after : List ℕ) (r : ℕ) → Type 0
StepBytesDone n k memory memory_left line out out_after r =
    BytesDone (chain_in n (length memory) && ltb k n) (hop n k (chain_on memory line)) memory memory_left line out out_after r

-- `run_bytes`: every device once
abbrev pub RunBytesDone : (n : ℕ) (memory memory_left line out out_after : List ℕ) (r : ℕ) → Type 0
RunBytesDone n memory memory_left line out out_after r =
    BytesDone (chain_in n (length memory)) (hops n n (chain_on memory line)) memory memory_left line out out_after r

-- what devices leave that were not turned away
pub record HoppedBytes (after : Chain) (memory_left out out_after : List ℕ) : Type 0 where
  pub remembers : memory_left ≡ as_bytes after.memory
  pub leaves : out_after ≡ at_front (as_bytes after.line) out

-- and what they leave in bytes of memory and words of a line, both in place
pub record InPlace (after : Chain) (memory_left line_left : List ℕ) : Type 0 where
  pub remembers : words_of memory_left ≡ after.memory
  pub leaves : line_left ≡ after.line
