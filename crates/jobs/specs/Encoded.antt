-- A job file as an encoding: a header and entries that keep the rules, and their bytes.
use Rattle.std.specs.Prelude.{◌≡◌, true, ◌⊎◌, List, [], ◌∷◌, ℕ, ◌≤◌, ◌<◌, length}
use Rattle.remainder.specs.Turned.{Bytes}
use Rattle.questions.specs.Question.{hello_all, write_all, write_device, read_all, read_device}
use Rattle.masks.specs.Masks.{all_bits}
use Rattle.jobs.specs.declared.Header.{Header}
use Rattle.jobs.specs.Format.{Entry, entry_bytes, file_bytes}
use Rattle.jobs.specs.Rules.{good_header}

-- each field fits its bytes: the bytes of the entry are bytes
abbrev pub Fits : (version : ℕ) → Entry → Type 0
Fits version e = Bytes (entry_bytes version e)

-- and keeps the rules: no more than 140 words, no kind above 4, and a field that its kind does not use is 0, the seed too where alive is off, and for
-- HELLOALL; a write's mask is not 0, and FFFFh in a file of version 1, which has no masks
pub record Keeps (h : Header) (e : Entry) : Type 0 where
  pub words : length e.words ≤ 140
  pub kind : e.kind ≤ 4
  pub register : e.kind ≡ hello_all → e.reg ≡ 0
  pub value : (e.kind ≡ hello_all) ⊎ (read_all ≤ e.kind) → e.value ≡ 0
  pub mask : (e.kind ≡ hello_all) ⊎ (read_all ≤ e.kind) → e.mask ≡ 0
  pub masked : (e.kind ≡ write_all) ⊎ (e.kind ≡ write_device) → e.mask ≡ 0 → ⊥
  pub whole : (e.kind ≡ write_all) ⊎ (e.kind ≡ write_device) → h.version < 2 → e.mask ≡ all_bits
  pub device : (e.kind ≡ write_device → ⊥) → (e.kind ≡ read_device → ⊥) → e.device ≡ 0
  pub seed : (e.kind ≡ hello_all) ⊎ (h.alive ≡ 1 → ⊥) → e.seed ≡ 0

-- all of them fit, and keep the rules
pub data AllKeep (h : Header) : List Entry → Type 0 where
  none : AllKeep h []
  more : (e : Entry) (es : List Entry) → Fits h.version e → Keeps h e → AllKeep h es → AllKeep h (e ∷ es)

-- the file is the encoding of this header and these entries
pub record Encodes (h : Header) (es : List Entry) (file : List ℕ) : Type 0 where
  pub written : file ≡ file_bytes h es
  pub header : good_header h ≡ true
  pub entries : AllKeep h es
  pub size : length file ≤ 65536
