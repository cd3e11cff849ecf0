-- The certificate's text in ASCII (document 01, "Job file and certificate"; document 02, M-100): `BMC`, the file's version and n, then `E i r`
-- for each entry, i from 1, then `D a v` for each covered device in address order. Every line ends in a line feed, the last one too.
use Rattle.std.specs.Prelude.{cond, List, [], ◌∷◌, ◌++◌, ℕ, zero, suc, ◌+◌, ◌/◌, ◌%◌, leb, length, get_or}
use Rattle.questions.specs.Question.{covers}
use Rattle.questions.specs.declared.question.Question.{Question}
use Rattle.letters.specs.declared.Standing.{Standing}

abbrev pub space : ℕ
space = 0x20

abbrev pub line_feed : ℕ
line_feed = 0x0A

-- one figure of v, unless it would be a zero in front
abbrev pub figure : (worth v : ℕ) → List ℕ
figure worth v = cond (leb worth v) ((0x30 + v / worth % 10) ∷ []) []

-- a decimal number of at most five figures
unfoldable pub decimal : ℕ → List ℕ
decimal v = figure 10000 v ++ (figure 1000 v ++ (figure 100 v ++ (figure 10 v ++ ((0x30 + v % 10) ∷ []))))

-- a line's mark, and two numbers with a space between them
abbrev pub numbers_line : (mark : List ℕ) → (a b : ℕ) → List ℕ
numbers_line mark a b = mark ++ (decimal a ++ (space ∷ (decimal b ++ (line_feed ∷ []))))

-- BMC 1 n, or BMC 2 n: the file's version, and the chain's n
unfoldable pub head_line : (version n : ℕ) → List ℕ
head_line version n = numbers_line (0x42 ∷ 0x4D ∷ 0x43 ∷ space ∷ []) version n

-- E i r
unfoldable pub entry_line : (i r : ℕ) → List ℕ
entry_line i r = numbers_line (0x45 ∷ space ∷ []) i r

-- D a v
unfoldable pub device_line : (a letter : ℕ) → List ℕ
device_line a letter = 0x44 ∷ space ∷ (decimal a ++ (space ∷ letter ∷ line_feed ∷ []))

-- the first k of some lines, one behind the other
unfoldable pub first_lines : (ℕ → List ℕ) → (k : ℕ) → List ℕ
first_lines line zero = []
first_lines line (suc k) = first_lines line k ++ line k

-- one for each entry, counted from 1
abbrev pub entry_lines : (numbers : List ℕ) → List ℕ
entry_lines numbers = first_lines (λ (k : ℕ). entry_line (k + 1) (get_or numbers k 0)) (length numbers)

-- only a device that the write covers has a line
abbrev pub device_line_if : (write : Question) → (a letter : ℕ) → List ℕ
device_line_if write a letter = cond (covers write a) (device_line a letter) []

-- no chain has more than 32 devices
abbrev pub device_lines : Standing → List ℕ
device_lines s = first_lines (λ (a : ℕ). device_line_if s.write a (get_or s.letters a 0)) 32

-- the whole text, for the file's version, the chain's n, a number for each entry, and the letters
unfoldable pub certificate_text : (version n : ℕ) → (numbers : List ℕ) → Standing → List ℕ
certificate_text version n numbers s = head_line version n ++ (entry_lines numbers ++ device_lines s)
