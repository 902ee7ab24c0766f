-- The edges are computed.
use Rattle.std.proofs.Common.{refl}
use Rattle.book.specs.Firsts.{scan}
use Rattle.book.specs.Tables.{place}
use Rattle.book.specs.Moves.{trading, next}
use Rattle.book.specs.Cross.{work}
use Rattle.session.specs.Calls.{done}
use Rattle.session.specs.Edges.{Edges}
use Rattle.session.specs.Runs.{crossing}

pub edges : Edges
unfolding scan place trading next work done crossing
edges =
    record {
      figures = record {
        fifty = refl;
        fifty_one = refl;
        fifty_five = refl;
        thousand = refl;
        thousand_five = refl;
        thousand_ten = refl;
        at_limit1 = refl;
        beyond_limit1 = refl;
        at_limit2 = refl;
        beyond_limit2 = refl;
        most_pieces = refl;
        too_many_pieces = refl;
      };
      opens = record { phase = refl; opener = refl; slips = refl };
      waits = record { phase = refl; opener = refl; slips = refl };
      not_yet = record { phase = refl; opener = refl; slips = refl };
      goes_out = record { phase = refl; slips = refl };
      cause_two = refl;
      served = record { phase = refl; slips = refl };
      also_opens = record { phase = refl; opener = refl; slips = refl };
      also_waits = record { phase = refl; opener = refl; slips = refl };
      meet = record { phase = refl; slips = refl };
    }
