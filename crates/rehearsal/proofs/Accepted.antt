-- WHAT A REHEARSAL SHOWS. The rehearsed file is a job file again; every good question in it is accepted by the reader, each read's values are
-- what the chain's registers held when it came, and the registers change by the writes alone, from power-on on.
use mathlib.Core.Path.{◌≡◌, refl}
use mathlib.Core.Bool.{true}
use mathlib.Core.List.{List, [], ◌∷◌}
use Prim.Native.Nat.{ℕ, ◌*◌, ◌%◌, ◌≤◌}
use lib.ListN.{length, drop}
use Rattle.ground.proofs.Sweep.{length_tabulated}
use Rattle.remainder.specs.Turned.{Bytes}
use Rattle.registers.specs.Memory.{fresh, power_on_memory}
use Rattle.registers.proofs.Power.{figure_lt}
use Rattle.roundtrip.proofs.Values.{tabulated_registers}
use Rattle.jobs.specs.declared.Header.{Header}
use Rattle.jobs.specs.Format.{Entry, head_size, asked}
use Rattle.jobs.specs.Check.{header_in, entries_in, good_file}
use Rattle.jobs.specs.Encoded.{AllKeep, Encodes}
use Rattle.jobs.specs.Encoded.AllKeep.{none as keeps-none, more as keeps-more}
use Rattle.jobs.proofs.Entries.{parts, header_least, header_most}
use Rattle.jobs.proofs.GoodFile.{good_is_encoded}
use Rattle.rehearsal.specs.Rehearsal.{sent, with_words, rehearsed, rehearsal_of}
use Rattle.rehearsal.specs.Accepted.{FromChain}
use Rattle.rehearsal.specs.Accepted.FromChain.{none as no_more}
use Rattle.rehearsal.proofs.OneAccepted.{ChainMemory, chain_after, answered_fits, answered_keeps, one_from_chain}

-- ---- all entries

pub from_chain : (h : Header) (memory : List ℕ) (es : List Entry) → AllKeep h es → ChainMemory h.n memory → FromChain h memory (rehearsed h memory es)
unfolding rehearsed
from_chain h memory [] keeps c = no_more memory
from_chain h memory (e ∷ es) (keeps-more _ _ fits rules rest) c =
    one_from_chain h e fits memory c (rehearsed h (sent h.n memory (asked h e)).memory es)
    (from_chain h (sent h.n memory (asked h e)).memory es rest (chain_after h e fits memory c))

all_keep : (h : Header) (memory : List ℕ) (es : List Entry) → AllKeep h es → ChainMemory h.n memory → AllKeep h (rehearsed h memory es)
unfolding rehearsed
all_keep h memory [] keeps c = keeps-none
all_keep h memory (e ∷ es) (keeps-more _ _ fits rules rest) c =
    keeps-more (with_words e (sent h.n memory (asked h e)).line) (rehearsed h (sent h.n memory (asked h e)).memory es) (answered_fits h e fits memory c)
    (answered_keeps h e fits memory c rules) (all_keep h (sent h.n memory (asked h e)).memory es rest (chain_after h e fits memory c))

-- ---- a whole file

module _ (file : List ℕ) (small : Bytes file) (ok : good_file file ≡ true) where
  abbrev h₀ : Header
  h₀ = header_in file

  abbrev answered : List Entry
  answered = rehearsed h₀ (power_on_memory h₀.n) (entries_in h₀.version (drop head_size file))

  powered : ChainMemory h₀.n (power_on_memory h₀.n)
  powered = record {
    least = header_least h₀ (parts file ok).header;
    most = header_most h₀ (parts file ok).header;
    size = length_tabulated fresh (256 * h₀.n) 0;
    words = tabulated_registers fresh (256 * h₀.n) (λ k. figure_lt (k % 256));
  }

  keeps : AllKeep h₀ (entries_in h₀.version (drop head_size file))
  keeps = (good_is_encoded file small ok).entries

  -- THE REHEARSED FILE IS A JOB FILE, where it is not too long: the encoding of the header and the answered entries.
  pub rehearsal_is_a_job : length (rehearsal_of file) ≤ 65536 → Encodes h₀ answered (rehearsal_of file)
  unfolding rehearsal_of
  rehearsal_is_a_job short = record {
    written = refl;
    header = (parts file ok).header;
    entries = all_keep h₀ (power_on_memory h₀.n) (entries_in h₀.version (drop head_size file)) keeps powered;
    size = short;
  }

  -- EVERY GOOD QUESTION IS ACCEPTED, with the values that the registers held.
  pub rehearsal_is_accepted : FromChain h₀ (power_on_memory h₀.n) answered
  rehearsal_is_accepted = from_chain h₀ (power_on_memory h₀.n) (entries_in h₀.version (drop head_size file)) keeps powered
