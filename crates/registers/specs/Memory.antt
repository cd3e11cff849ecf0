-- The register memory of a chain, and power-on (document 01, "The twin" and row 15; data sheet 004, "Register Table").
use Rattle.std.specs.Prelude.{◌≡◌, Bool, cond, ◌&&◌, List, ℕ, ◌*◌, ◌%◌, eqb, leb, length, Result, Ok, Err, ⊤}
use Rattle.ground.specs.Sweep.{tabulated}
use Rattle.lines.specs.Write.{left_by}
use Rattle.numbers.specs.Numbers.{answer_number}
use Rattle.registers.specs.declared.NoChain.{NoChain}

-- 1 to 32 devices, and memory of exactly the size that they take
abbrev pub chain_of : (device n size : ℕ) → Bool
chain_of device n size = leb 1 n && leb n 32 && eqb size (device * n)

-- row 15: 1 to 32 devices, and exactly 256 words for each
abbrev pub is_chain : (n words : ℕ) → Bool
is_chain = chain_of 256

-- What register r holds after power-on: nine figures of 004's table (VERSION, STATUS, MINMAXCELL, DEVCFG1, TOPCELL, OVTHCLR, OVTHSET,
-- MSMTCH, AINUT), and 0000h where its figure is that, where it has no fixed one (ID1, ID2), and where it has no row.
unfoldable pub power_on_figure : ℕ → ℕ
power_on_figure r =
    cond (eqb r 0x00) 0x8236
    (cond (eqb r 0x02) 0x8000
    (cond (eqb r 0x0A) 0x0F0F
    (cond (eqb r 0x10) 0x0002
    (cond (eqb r 0x1E) 0x000C
    (cond (eqb r 0x40) 0xFFFC
    (cond (eqb r 0x42) 0xFFFC
    (cond (eqb r 0x48) 0xFFFC
    (cond (eqb r 0x4A) 0xFFF0
    0x0000))))))))

-- word i of the memory belongs to register i modulo 256 of its device
abbrev pub fresh : ℕ → ℕ
fresh i = power_on_figure (i % 256)

-- the registers of n devices after power-on
abbrev pub power_on_memory : (n : ℕ) → List ℕ
power_on_memory n = tabulated fresh (256 * n) 0

-- the answer
unfoldable pub powered_of : (n : ℕ) (memory : List ℕ) → Result ⊤ NoChain
powered_of n memory = cond (is_chain n (length memory)) (Ok tt) (Err (record {}))

-- the row of a memory that is no chain's: 15 TWIN
abbrev pub no_chain_number : NoChain → ℕ
no_chain_number _ = 15

-- document 01's number of an answer: 0 where the memory was filled, 15 TWIN
abbrev pub powered_number : Result ⊤ NoChain → ℕ
powered_number = answer_number no_chain_number

-- what `power_on` says and leaves
pub record PoweredOn (n : ℕ) (before after : List ℕ) (r : Result ⊤ NoChain) : Type 0 where
  pub says : r ≡ powered_of n before
  pub leaves : after ≡ left_by (powered_number (powered_of n before)) (power_on_memory n) before
