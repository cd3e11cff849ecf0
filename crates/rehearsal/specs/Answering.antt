-- The entries answered one after the other.
use Rattle.std.specs.Prelude.{◌≡◌, true, List, ℕ, ◌+◌, ◌*◌, ◌≤◌, length, take, drop}
use Rattle.std.proofs.lemmas.List.Edits.{sets}
use Rattle.packing.specs.Words.{low_high}
use Rattle.questions.specs.declared.question.Question.{Question}
use Rattle.registers.specs.Memory.{is_chain}
use Rattle.jobs.specs.declared.Header.{Header}
use Rattle.jobs.specs.Format.{Entry, since, head_size, field_size, field_bytes, entry_bytes, entries_bytes}
use Rattle.jobs.specs.Check.{size_in, asked_in, entry_in, entries_in, good_entries}
use Rattle.rehearsal.specs.declared.Places.{Places}
use Rattle.rehearsal.specs.Rehearsal.{answer_words, sent, with_words, rehearsed}

-- what `send` does to the registers, and what stands at the front of the line
pub record SentDone (n : ℕ) (q : Question) (memory memory_left line : List ℕ) (r : ℕ) : Type 0 where
  pub words : r ≡ answer_words q
  pub comes : take r line ≡ (sent n memory q).line
  pub remembers : memory_left ≡ (sent n memory q).memory

-- an entry's bytes before its words
abbrev pub fields_for : (version : ℕ) → Question → (mask words : ℕ) → List ℕ
fields_for version q mask words = field_bytes version q.kind q.reg q.value mask q.device q.seed words

-- the mask where the version has one, and the place behind it
pub record MaskPut (version mask to : ℕ) (out out_after : List ℕ) (r : ℕ) : Type 0 where
  pub behind : r ≡ to + length (since 2 version (low_high mask))
  pub leaves : out_after ≡ sets out to (since 2 version (low_high mask))

-- the places behind an entry
abbrev pub entry_with : Header → (file : List ℕ) → Places → Places
entry_with h file p = record {
  at = p.at + size_in h.version (drop p.at file);
  to = p.to + field_size h.version + 2 * answer_words (asked_in h (drop p.at file));
}

-- the entry at a place, with the answer that comes back
abbrev pub answered_at : Header → (file : List ℕ) → (at : ℕ) → (memory : List ℕ) → Entry
answered_at h file at memory = with_words (entry_in h.version (drop at file)) (sent h.n memory (asked_in h (drop at file))).line

-- one entry more
pub record AnsweredOne (h : Header) (file : List ℕ) (p : Places) (memory memory_left out out_after : List ℕ) (r : Places) : Type 0 where
  pub places : r ≡ entry_with h file p
  pub remembers : memory_left ≡ (sent h.n memory (asked_in h (drop p.at file))).memory
  pub leaves : out_after ≡ sets out p.to (entry_bytes h.version (answered_at h file p.at memory))

-- where answering may begin: a chain, and good entries whose answers do not make the file too long
pub record Ready (h : Header) (file memory out : List ℕ) : Type 0 where
  pub chain : is_chain h.n (length memory) ≡ true
  pub long : head_size ≤ length file
  pub good : good_entries h (drop head_size file) ≡ true
  pub short : head_size + length (entries_bytes h.version (rehearsed h memory (entries_in h.version (drop head_size file)))) ≤ 65536
