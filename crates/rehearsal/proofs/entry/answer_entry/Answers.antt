-- `answer_entry` meets its contract: of good entries there is one here; its question is sent, and its answer laid behind its fields.
use mathlib.Core.Path.{ap}
use native.Mathlib.Omega.{arith}
use Prim.Native.Nat.{ℕ, ◌+◌}
use lib.ListN.{length-replicate, length-take}
use Rattle.jobs.specs.declared.EntryAt.{EntryAt}
use Rattle.jobs.specs.declared.Cursor.{Cursor}
use Rattle.jobs.proofs.Sizes.{field_bounds}
use Rattle.rehearsal.proofs.Sending.{few_words}
use Rattle.rehearsal.proofs.Answering.{answered_one}
use Rattle.rehearsal.proofs.entry.answer_entry.Goals as goal

pub put_fields-requires : goal.put_fields-requires
put_fields-requires c = omega (arith, c.send-words.ensures.words, few_words c.entry_at.result.0.question)

pub overflow_add-behind : goal.overflow_add-behind
overflow_add-behind c = omega (arith, c.field_size.ensures, (field_bounds c.args.job.header.version).1, c.requires.3)

pub slice_bounds-line-end : goal.slice_bounds-line-end
slice_bounds-line-end c = omega (arith, c.send-words.ensures.words, few_words c.entry_at.result.0.question, c.send-words.auto.line, (length-replicate {A = ℕ} 140 0))

pub slice_bounds-put_words-end : goal.slice_bounds-put_words-end
slice_bounds-put_words-end c = simp length-take (omega (arith, c.send-words.ensures.words, few_words c.entry_at.result.0.question, c.send-words.auto.line, (length-replicate {A = ℕ} 140 0)))

pub put_words-requires : goal.put_words-requires
put_words-requires c = omega (arith, length-take c.send-words.result c.send-words.new.line, c.send-words.ensures.words, few_words c.entry_at.result.0.question)

pub overflow_mul-result : goal.overflow_mul-result
overflow_mul-result c = omega (arith, c.send-words.ensures.words, few_words c.entry_at.result.0.question)

pub overflow_add-result : goal.overflow_add-result
overflow_add-result c = omega (arith, c.field_size.ensures, (field_bounds c.args.job.header.version).1, c.send-words.ensures.words, few_words c.entry_at.result.0.question, c.requires.3)

pub returns : goal.returns
returns c =
    let a = c.args in
    let is = c.entry_at.ensures in
    answered_one a.job.header a.job.file.now a.memory.now _ c.send-words.new.line a.out.now _ _ a.places c.entry_at.result.0.question c.entry_at.result.0.mask c.send-words.result _ _
    (ap (λ (x : EntryAt × Cursor). x.0.question) is) (ap (λ (x : EntryAt × Cursor). x.0.mask) is) c.send-words.ensures c.put_fields.ensures (ap (λ (k : ℕ). a.places.to + k) c.field_size.ensures) c.put_words.ensures
    (ap (λ (x : EntryAt × Cursor). x.1.at) is)
