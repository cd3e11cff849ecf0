-- A question (document 01, "Commands and answers" and row 1 of "Turned away"): how one is made, which are good, and which devices one is put to.
-- A field that a kind does not use is not looked at.
use Rattle.std.specs.Prelude.{Bool, false, ◌&&◌, ◌||◌, not, ℕ, zero, suc, leb, ltb, eqb, ◌≡◌, ◌<◌, Result, MatchResult}
use Rattle.questions.specs.declared.question.Question.{Question}
use Rattle.questions.specs.declared.question.Kind.{Kind}
use Rattle.questions.specs.declared.question.Kind.TheVariants.{HelloAll, WriteAll, WriteDevice, ReadAll, ReadDevice}
use Rattle.questions.specs.declared.question.NoKind.{NoKind}

-- A question of its seven numbers, and a question with alive on: no other definition names all the fields.
abbrev pub asking : (kind n alive reg value device seed : ℕ) → Question
asking kind n alive reg value device seed =
    record { kind = kind; n = n; alive = alive; reg = reg; value = value; device = device; seed = seed }

abbrev pub alive_on : Question → Question
alive_on q =
    record { kind = q.kind; n = q.n; alive = 1; reg = q.reg; value = q.value; device = q.device; seed = q.seed }

-- the kinds, by number
abbrev pub hello_all : ℕ
hello_all = 0

abbrev pub write_all : ℕ
write_all = 1

abbrev pub write_device : ℕ
write_device = 2

abbrev pub read_all : ℕ
read_all = 3

abbrev pub read_device : ℕ
read_device = 4

abbrev pub kind_number : Kind → ℕ
kind_number HelloAll = hello_all
kind_number WriteAll = write_all
kind_number WriteDevice = write_device
kind_number ReadAll = read_all
kind_number ReadDevice = read_device

-- the answer is the kind of this number, or that no kind has it
abbrev pub Names : ℕ → Result Kind NoKind → Type 0
Names k answer = MatchResult answer (λ kind. kind_number kind ≡ k) (λ _. 4 < k)

module _ {ℓ} {A : Type ℓ} where
  -- one entry for each kind, in the order of their numbers; a kind above 4, which no good question has, takes the last
  abbrev pub by_kind : ℕ → (hello writes_all writes_one reads_all reads_one : A) → A
  by_kind zero h wa wo ra ro = h
  by_kind (suc zero) h wa wo ra ro = wa
  by_kind (suc (suc zero)) h wa wo ra ro = wo
  by_kind (suc (suc (suc zero))) h wa wo ra ro = ra
  by_kind (suc (suc (suc (suc k)))) h wa wo ra ro = ro

  -- the same of a kind's name
  abbrev pub by_name : Kind → (hello writes_all writes_one reads_all reads_one : A) → A
  by_name HelloAll h wa wo ra ro = h
  by_name WriteAll h wa wo ra ro = wa
  by_name WriteDevice h wa wo ra ro = wo
  by_name ReadAll h wa wo ra ro = ra
  by_name ReadDevice h wa wo ra ro = ro

  -- one entry for HELLOALL, one for both writes, one for both reads
  abbrev pub by_form : ℕ → (hello writes reads : A) → A
  by_form k h w r = by_kind k h w w r r

-- what a question of this number asks
abbrev pub kind_at : ℕ → Kind
kind_at k = by_kind k HelloAll WriteAll WriteDevice ReadAll ReadDevice

-- n is 1..32, and for kinds 2 and 4 the command's device is below n
unfoldable pub good_chain : Question → Bool
good_chain q =
    leb 1 q.n && leb q.n 32
    && (not (eqb q.kind write_device || eqb q.kind read_device) || ltb q.device q.n)

-- QUESTION is given exactly when this is false: kind above 4; alive not 0 or 1; for kinds 1 to 4, n not 1..32; for kinds 2 and 4, the
-- command's device n or more.
unfoldable pub good_question : Question → Bool
good_question q = leb q.kind 4 && leb q.alive 1 && (eqb q.kind hello_all || good_chain q)

-- the devices whose register a good question writes or reads
abbrev pub covers_at : (kind : ℕ) → Question → ℕ → Bool
covers_at kind q a = by_kind kind false (ltb a q.n) (eqb a q.device) (ltb a q.n) (eqb a q.device)

unfoldable pub covers : Question → ℕ → Bool
covers q a = covers_at q.kind q a
