-- One entry heard: its words stand at the front of the buffer, and the number and the standing after it are those defined.
use mathlib.Core.Path.{◌≡◌, ap, ap₂, ◌∙◌}
use mathlib.Core.Bool.{Bool}
use mathlib.Core.List.{List}
use Prim.Native.Nat.{ℕ, ◌*◌, ◌≤◌}
use native.Mathlib.Omega.{arith}
use lib.ListN.{length, take, drop}
use lib.Seq.{sets, take_at}
use Rattle.std.specs.Prelude.{Result}
use Rattle.ground.proofs.Lists.{sets_front}
use Rattle.lines.specs.Write.{at_front}
use Rattle.packing.specs.Words.{words_of}
use Rattle.packing.proofs.Back.{length_words}
use Rattle.questions.specs.declared.question.Question.{Question}
use Rattle.readings.specs.Reading.{number_of, values_taken}
use Rattle.readings.specs.declared.Refusal.{Refusal}
use Rattle.readings.specs.declared.Taken.{Taken}
use Rattle.judging.specs.Judge.{judge_of}
use Rattle.reader.specs.Read.{values_on, ReadDone}
use Rattle.reader.proofs.Values.{handed_number}
use Rattle.letters.specs.declared.Standing.{Standing}
use Rattle.letters.specs.Letters.{hear_of}
use Rattle.letters.specs.Meaning.{is_values}
use Rattle.listening.specs.declared.Listened.{Listened}
use Rattle.listening.specs.Listening.{heard_as, listened_to}

-- the words at the front of the buffer are the entry's
pub line_read : (blank bytes : List ℕ) (words : ℕ) → length bytes ≡ 2 * words → words ≤ length blank → take words (sets blank 0 (words_of bytes)) ≡ words_of bytes
line_read blank bytes words even fits =
    let number : length (words_of bytes) ≡ words = omega (arith, length_words bytes) in
    ap (take words) (sets_front (words_of bytes) blank (omega (arith, number))) ∙ take_at (words_of bytes) (drop (length (words_of bytes)) blank) words number

-- the values at the front of the room are those handed out
pub values_read : (q : Question) (line room : List ℕ)
    → take (values_taken (judge_of q line 32)) (at_front (values_on line (values_taken (judge_of q line 32))) room) ≡ values_on line (values_taken (judge_of q line 32))
values_read q line room =
    let values = values_on line (values_taken (judge_of q line 32)) in
    take_at values (drop (length values) room) (values_taken (judge_of q line 32)) (handed_number q line 32)

pub heard_is : (s after : Standing) (q : Question) (mask : ℕ) (line line' room room' : List ℕ) (reading : Result Taken Refusal) (taken number size : ℕ) (accepted : Bool)
    → line' ≡ line → length room ≡ 32 → ReadDone q line' room room' reading → taken ≡ values_taken reading → number ≡ number_of reading → accepted ≡ is_values reading
    → after ≡ hear_of s q mask reading (take taken room') → ◌≡◌ {A = Listened} (record { number = number; standing = after; question = q; accepted = accepted; size = size }) (listened_to s (heard_as q mask line) size)
heard_is s after q mask line line' room room' reading taken number size accepted same room-size done count is values-are next =
    let says : reading ≡ judge_of q line 32 = done.says ∙ ap₂ (λ (l : List ℕ) (n : ℕ). judge_of q l n) same room-size in
    let m = values_taken (judge_of q line 32) in
    let many : taken ≡ m = count ∙ ap values_taken says in
    let leaves : room' ≡ at_front (values_on line m) room =
    done.leaves ∙ ap₂ (λ (l : List ℕ) (n : ℕ). at_front (values_on l (values_taken (judge_of q l n))) room) same room-size in
    let values : take taken room' ≡ values_on line m = ap₂ take many leaves ∙ values_read q line room in
    ap₂ (λ (n : ℕ) (b : Bool). record { number = n; standing = after; question = q; accepted = b; size = size }) (is ∙ ap number_of says) (values-are ∙ ap is_values says)
    ∙ ap (λ (t : Standing). record { number = number_of (judge_of q line 32); standing = t; question = q; accepted = is_values (judge_of q line 32); size = size })
    (next ∙ ap₂ (λ (r : Result Taken Refusal) (v : List ℕ). hear_of s q mask r v) says values)
