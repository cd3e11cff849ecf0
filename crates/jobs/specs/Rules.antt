-- The rules that a job file keeps (document 01, "Job file and certificate"; document 02, M-100): the version is 1 or 2, n is 1..32, alive 0 or 1,
-- no kind above 4, no more than 140 words, a field that its kind does not use is 0, the seed too where alive is off, and for HELLOALL, and a write's
-- mask is not 0, and FFFFh in version 1.
use Rattle.std.specs.Prelude.{Bool, ◌&&◌, leb, length}
use Rattle.masks.specs.Masks.{good_mask}
use Rattle.used_fields.specs.Used.{unused_are_zero}
use Rattle.jobs.specs.declared.Header.{Header}
use Rattle.jobs.specs.Format.{Entry, asked}

unfoldable pub good_header : Header → Bool
good_header h = leb 1 h.version && leb h.version 2 && leb 1 h.n && leb h.n 32 && leb h.alive 1

-- an entry keeps the rules
unfoldable pub keeps_rules : Header → Entry → Bool
keeps_rules h e = leb (length e.words) 140 && leb e.kind 4 && unused_are_zero (asked h e) && good_mask h.version e.kind e.mask
