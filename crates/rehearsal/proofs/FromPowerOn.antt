-- The whole answered file: a chain that is switched on, the header, and behind it the entries with their answers.
use Rattle.std.specs.Prelude.{Result, ⊤}
use mathlib.Core.Path.{◌≡◌, sym, ap, ap₂, ◌∙◌}
use mathlib.Core.Bool.{Bool, true, ◌&&◌}
use mathlib.Core.List.{List, ◌++◌}
use Prim.Native.Nat.{ℕ, ◌*◌, ◌≤◌}
use native.Mathlib.Omega.{arith}
use lib.Dec.{eqb}
use lib.ListN.{length, drop, length-append}
use lib.Seq.{sets}
use borrow.Author.Tests.{le-leb, eq-eqb}
use Rattle.ground.proofs.Lists.{sets_append}
use Rattle.jobs.specs.declared.Header.{Header}
use Rattle.registers.specs.Memory.{is_chain, power_on_memory, PoweredOn}
use Rattle.registers.specs.declared.NoChain.{NoChain}
use Rattle.registers.proofs.Power.{switched_on}
use Rattle.jobs.specs.Format.{Entry, head_size, header_bytes, entries_bytes, file_bytes}
use Rattle.jobs.specs.Rules.{good_header}
use Rattle.jobs.specs.Check.{good_entries, entries_in, header_in, good_file}
use Rattle.jobs.proofs.Sizes.{head_length}
use Rattle.jobs.proofs.Entries.{parts, header_least, header_most}
use Rattle.rehearsal.specs.Rehearsal.{rehearsed, rehearsal_of}
use Rattle.rehearsal.specs.Answering.{Ready}

module _ (h : Header) (file memory memory' out out₁ out₂ : List ℕ) (powered : Result ⊤ NoChain) (ok : good_file file ≡ true) (is : h ≡ header_in file)
    (short : length (rehearsal_of file) ≤ 65536) (size : length memory ≡ 256 * h.n) (on : PoweredOn h.n memory memory' powered) where
  pub a_chain : is_chain h.n (length memory) ≡ true
  a_chain =
      let good = ap good_header is ∙ (parts file ok).header in
      ap₂ (λ (t u : Bool). t && u && eqb (length memory) (256 * h.n)) (le-leb 1 h.n (header_least h good)) (le-leb h.n 32 (header_most h good))
      ∙ eq-eqb (length memory) (256 * h.n) size

  from_power_on : memory' ≡ power_on_memory h.n
  from_power_on = switched_on h.n memory memory' powered on a_chain

  abbrev es : List Entry
  es = entries_in h.version (drop head_size file)

  -- the answered file is its header and its answered entries
  pub in_parts : rehearsal_of file ≡ header_bytes h ++ entries_bytes h.version (rehearsed h memory' es)
  unfolding rehearsal_of
  in_parts =
      ap (λ (x : Header). file_bytes x (rehearsed x (power_on_memory x.n) (entries_in x.version (drop head_size file)))) (sym is)
      ∙ ap (λ (m : List ℕ). header_bytes h ++ entries_bytes h.version (rehearsed h m es)) (sym from_power_on)

  pub ready : length memory' ≡ length memory → Ready h file memory' out₁
  ready kept = record {
    chain = ap (is_chain h.n) kept ∙ a_chain;
    long = (parts file ok).long;
    good = ap (λ (x : Header). good_entries x (drop head_size file)) is ∙ (parts file ok).entries;
    short = omega (arith, ap length in_parts, length-append (header_bytes h) (entries_bytes h.version (rehearsed h memory' es)), head_length h);
  }

  pub all_written : out₁ ≡ sets out 0 (header_bytes h) → out₂ ≡ sets out₁ head_size (entries_bytes h.version (rehearsed h memory' es)) → out₂ ≡ sets out 0 (rehearsal_of file)
  all_written head behind =
      behind ∙ ap₂ (λ (l : List ℕ) (k : ℕ). sets l k (entries_bytes h.version (rehearsed h memory' es))) head (sym (head_length h))
      ∙ sym (sets_append out 0 (header_bytes h) (entries_bytes h.version (rehearsed h memory' es))) ∙ ap (sets out 0) (sym in_parts)
