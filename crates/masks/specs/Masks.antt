-- The mask of an entry (document 02, M-100): job file version 2 adds sixteen bits to every entry after the value, the bits that a write is expected to
-- show. Writes of version 1 files read as mask FFFFh, and entries other than writes have mask 0.
use Rattle.std.specs.Prelude.{Bool, not, cond, ◌||◌, ℕ, leb, eqb}
use Rattle.questions.specs.Question.{write_all, write_device}

abbrev pub is_write : (kind : ℕ) → Bool
is_write kind = eqb kind write_all || eqb kind write_device

-- all sixteen bits of a value
abbrev pub all_bits : ℕ
all_bits = 0xFFFF

-- an entry's mask: what the entry says, from version 2 on; before, all bits for a write and none for the others
unfoldable pub mask_of : (version kind said : ℕ) → ℕ
mask_of version kind said = cond (leb 2 version) said (cond (is_write kind) all_bits 0)

-- FILE where this is false: a write's mask is not 0, and before version 2 it is FFFFh; that of the other kinds is 0
unfoldable pub good_mask : (version kind mask : ℕ) → Bool
good_mask version kind mask = cond (is_write kind) (cond (leb 2 version) (not (eqb mask 0)) (eqb mask all_bits)) (eqb mask 0)
