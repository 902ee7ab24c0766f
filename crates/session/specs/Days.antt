-- What a book has all day, and how it begins.
use Rattle.std.specs.Prelude.{ℕ, replicate, None}
use Rattle.figures.specs.Sheets.{Measures}
use Rattle.book.specs.Ranks.{Rank}
use Rattle.session.specs.Phases.{Dark}
pub use Rattle.session.specs.declared.state.State.{State}
pub use Rattle.session.specs.declared.state.Totals.{Totals}

-- the meaning of its sheet and of its ranking, the reference, the reply time in seconds
pub record Day : Type 0 where
  pub means : ℕ → Measures
  pub rank : Rank
  pub reference : ℕ
  pub reply : ℕ

abbrev pub totals_of : ℕ → ℕ → ℕ → Totals
totals_of accepted done out = record { accepted = accepted; done = done; out = out }

-- dark at clock 0, with nothing in it; the dynamic price is at first the reference
abbrev pub fresh : ℕ → State
fresh reference =
    record {
      clock = 0;
      dynamic = reference;
      count = 0;
      collected = 0;
      totals = totals_of 0 0 0;
      phase = Dark;
      table = record { rows = replicate 128 None };
    }
