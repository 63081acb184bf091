-- What a viewer reads off the dump of a run file.
use Rattle.std.specs.Prelude.{ℕ, ◌+◌, ◌^◌, ◌<◌, ◌≡◌, List, length}
use Rattle.driver.specs.Driver.{Store}
use Rattle.tape.specs.Dump.{played_of, dump_of}
use Rattle.viewer.specs.Words.{words_of}
use Rattle.viewer.specs.Reader.{views, start, seen_from}

-- 02 (i): of any run file that memory can hold, on any kind of chip, a viewer sees each tick's record, one a time unit, and no change that changed nothing
abbrev pub RunFileReadsBack : Type 0
RunFileReadsBack = (kind : ℕ) (m : Store) (s : List ℕ) → length s + 1 < 2 ^ 64 → views start (words_of (dump_of kind m s)) ≡ seen_from 0 (played_of kind m s).records
