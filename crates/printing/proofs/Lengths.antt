-- How long the text and its parts can be.
use mathlib.Core.Path.{◌≡◌, ap}
use mathlib.Core.Bool.{Bool, true, false, cond}
use mathlib.Core.List.{List, [], ◌∷◌, ◌++◌}
use Prim.Native.Nat.{ℕ, zero, suc, ◌+◌, ◌*◌, ◌/◌, ◌%◌, ◌≤◌, ◌<◌}
use native.Mathlib.Nat.{mul-suc}
use native.Mathlib.Omega.{arith}
use lib.Dec.{leb}
use lib.ListN.{length, get_or, length-append}
use borrow.Author.Tests.{lt-leb}
use Rattle.questions.specs.Question.{covers}
use Rattle.questions.specs.declared.question.Question.{Question}
use Rattle.letters.specs.declared.Standing.{Standing}
use Rattle.printing.specs.Text.{space, figure, decimal, numbers_line, head_line, entry_line, device_line, first_lines, entry_lines, device_line_if, device_lines, certificate_text}
use Rattle.printing.specs.Print.{most_entries}

-- ---- numbers

-- bytes that a test asks for, or none
if_most : (t : Bool) (xs : List ℕ) (most : ℕ) → length xs ≤ most → length (cond t xs []) ≤ most
if_most true xs most h = h
if_most false xs most h = omega arith

pub figure_most : (worth v : ℕ) → length (figure worth v) ≤ 1
figure_most worth v = if_most (leb worth v) ((0x30 + v / worth % 10) ∷ []) 1 (omega arith)

-- a zero in front is left out
figure_none : (worth v : ℕ) → v < worth → length (figure worth v) ≡ 0
figure_none worth v low = ap (λ (t : Bool). length (cond t ((0x30 + v / worth % 10) ∷ []) [])) (lt-leb worth v low)

length_decimal : (v : ℕ) → length (decimal v) ≡ length (figure 10000 v) + length (figure 1000 v) + length (figure 100 v) + length (figure 10 v) + 1
unfolding decimal
length_decimal v = simp length-append (omega arith)

pub decimal_most : (v : ℕ) → length (decimal v) ≤ 5
decimal_most v = omega (arith, length_decimal v, figure_most 10000 v, figure_most 1000 v, figure_most 100 v, figure_most 10 v)

pub decimal_four : (v : ℕ) → v < 10000 → length (decimal v) ≤ 4
decimal_four v low = omega (arith, length_decimal v, figure_none 10000 v low, figure_most 1000 v, figure_most 100 v, figure_most 10 v)

pub decimal_one : (v : ℕ) → v < 10 → length (decimal v) ≤ 1
decimal_one v low =
    omega (
      arith,
      length_decimal v,
      figure_none 10000 v (omega arith),
      figure_none 1000 v (omega arith),
      figure_none 100 v (omega arith),
      figure_none 10 v low,
    )

pub decimal_two : (v : ℕ) → v < 100 → length (decimal v) ≤ 2
decimal_two v low =
    omega (arith, length_decimal v, figure_none 10000 v (omega arith), figure_none 1000 v (omega arith), figure_none 100 v low, figure_most 10 v)

-- ---- lines

length_numbers : (mark : List ℕ) (a b : ℕ) → length (numbers_line mark a b) ≡ length mark + length (decimal a) + length (decimal b) + 2
length_numbers mark a b = simp length-append (omega arith)

pub length_head : (version n : ℕ) → length (head_line version n) ≡ length (decimal version) + length (decimal n) + 6
unfolding head_line
length_head version n = omega (arith, length_numbers (0x42 ∷ 0x4D ∷ 0x43 ∷ space ∷ []) version n)

pub length_entry : (i r : ℕ) → length (entry_line i r) ≡ length (decimal i) + length (decimal r) + 4
unfolding entry_line
length_entry i r = omega (arith, length_numbers (0x45 ∷ space ∷ []) i r)

pub length_device : (a letter : ℕ) → length (device_line a letter) ≡ length (decimal a) + 5
unfolding device_line
length_device a letter = simp length-append (omega arith)

pub head_most : (version n : ℕ) → length (head_line version n) ≤ 16
head_most version n = omega (arith, length_head version n, decimal_most version, decimal_most n)

pub entry_most : (i r : ℕ) → length (entry_line i r) ≤ 14
entry_most i r = omega (arith, length_entry i r, decimal_most i, decimal_most r)

pub entry_ten : (i r : ℕ) → i < 10000 → r < 100 → length (entry_line i r) ≤ 10
entry_ten i r low small = omega (arith, length_entry i r, decimal_four i low, decimal_two r small)

pub device_most : (a letter : ℕ) → length (device_line a letter) ≤ 10
device_most a letter = omega (arith, length_device a letter, decimal_most a)

pub device_seven : (a letter : ℕ) → a < 100 → length (device_line a letter) ≤ 7
device_seven a letter low = omega (arith, length_device a letter, decimal_two a low)

pub device_if_most : (write : Question) (a letter most : ℕ) → length (device_line a letter) ≤ most → length (device_line_if write a letter) ≤ most
device_if_most write a letter most h = if_most (covers write a) (device_line a letter) most h

-- ---- lines, one behind the other

pub lines_most : (line : ℕ → List ℕ) (most k : ℕ) → ((j : ℕ) → j < k → length (line j) ≤ most) → length (first_lines line k) ≤ most * k
unfolding first_lines
lines_most line most zero each = omega arith
lines_most line most (suc k) each =
    omega (arith, length-append (first_lines line k) (line k), mul-suc most k, lines_most line most k (λ j lower. each j (omega arith)), each k (omega arith))

-- entry k, counted from 1, and device a: the lines that make up the text behind its head
abbrev pub entry_at : (numbers : List ℕ) → ℕ → List ℕ
entry_at numbers k = entry_line (k + 1) (get_or numbers k 0)

abbrev pub device_at : (write : Question) (letters : List ℕ) → ℕ → List ℕ
device_at write letters a = device_line_if write a (get_or letters a 0)

pub entries_most : (numbers : List ℕ) (k : ℕ) → length (first_lines (entry_at numbers) k) ≤ 14 * k
entries_most numbers k = lines_most (entry_at numbers) 14 k (λ j lower. entry_most (j + 1) (get_or numbers j 0))

pub devices_most : (write : Question) (letters : List ℕ) (k : ℕ) → length (first_lines (device_at write letters) k) ≤ 10 * k
devices_most write letters k =
    lines_most (device_at write letters) 10 k (λ a lower. device_if_most write a (get_or letters a 0) 10 (device_most a (get_or letters a 0)))

-- with a version of one figure and numbers of at most two: 9 for the head, 10 for each of 8,191 entries, 7 for each of 32 devices
pub longest : (version n : ℕ) (numbers : List ℕ) (s : Standing) → version < 10 → n < 100 → length numbers ≤ most_entries → ((k : ℕ) → get_or numbers k 0 < 100)
    → length (certificate_text version n numbers s) ≤ 82143
unfolding certificate_text
longest version n numbers s early few fits small =
    let letter : ℕ → ℕ = λ a. get_or s.letters a 0 in
    omega (
      arith,
      length-append (head_line version n) (entry_lines numbers ++ device_lines s),
      length-append (entry_lines numbers) (device_lines s),
      length_head version n,
      decimal_one version early,
      decimal_two n few,
      lines_most (entry_at numbers) 10 (length numbers) (λ k lower. entry_ten (k + 1) (get_or numbers k 0) (omega arith) (small k)),
      lines_most (device_at s.write s.letters) 7 32 (λ a lower. device_if_most s.write a (letter a) 7 (device_seven a (letter a) (omega arith))),
    )
