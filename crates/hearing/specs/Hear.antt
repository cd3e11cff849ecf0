-- What a line asks of device k (document 01, "The twin" and "Commands and answers"): a question read off the line's bytes and its length.
-- Only where the line is that question's command, as the devices before left it, is it acted on.
use Rattle.std.specs.Prelude.{Bool, cond, ◌&&◌, List, ℕ, ◌+◌, ◌*◌, leb, ltb, eqb, length}
use Rattle.lines.specs.Line.{byte_at}
use Rattle.questions.specs.Question.{asking, alive_on, hello_all, write_all, write_device, read_all, read_device}
use Rattle.questions.specs.Shape.{shape_of}
use Rattle.questions.specs.declared.question.Question.{Question}

-- a chain of 1 to 32 devices, and device k is one of them
abbrev pub is_place : (n k : ℕ) → Bool
is_place n k = leb 1 n && leb n 32 && ltb k n

-- the kind that the first byte names to device k: 57, 02, k*8+4, 03; any other byte is taken for k*8+5, and then is no command unless it is
unfoldable pub kind_heard : (k first : ℕ) → ℕ
kind_heard k first =
    cond (eqb first 0x57) hello_all
    (cond (eqb first 0x02) write_all
    (cond (eqb first (k * 8 + 4)) write_device
    (cond (eqb first 0x03) read_all
    read_device)))

-- how many values the devices before device k have put in: one each into a READALL
abbrev pub carried : (kind k : ℕ) → ℕ
carried kind k = cond (eqb kind read_all) k 0

-- where the alive byte stands: directly after the PEC, which follows four bytes of a write, and a read's three and its values. HELLOALL has none:
-- what is read there for it is the seed of a question that sends no seed
abbrev pub alive_place : (kind k : ℕ) → ℕ
alive_place kind k = cond (leb kind write_device) 5 (4 + 2 * carried kind k)

-- the question as its bytes tell, with alive off; its seed is the alive byte as it stands
unfoldable pub plainly : (n k : ℕ) → List ℕ → Question
plainly n k line =
    let kind = kind_heard k (byte_at line 0) in
    asking kind n 0 (byte_at line 1) (byte_at line 2 + 256 * byte_at line 3) k (byte_at line (alive_place kind k))

-- The length tells whether alive is on.
unfoldable pub alive_told : Question → (words : ℕ) → Question
alive_told q words = cond (eqb words (shape_of q).words) q (alive_on q)

abbrev pub heard : (n k : ℕ) → List ℕ → Question
heard n k line = alive_told (plainly n k line) (length line)
