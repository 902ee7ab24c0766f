use Rattle.std.proofs.Common.{◌≡◌, ◌^◌, ◌<◌, drop, Some}
use Rattle.records.specs.Reading.{number_from, number_of}
use Rattle.records.proofs.read.number_of.Given as goal

-- the digits so far stand for n
abbrev pub invariant-loop-byte : goal.invariant-loop-byte
invariant-loop-byte l = (number_of l.digits ≡ number_from (Some l.n) (drop l.byte-index l.digits)) × (l.n < 10 ^ l.byte-index)
