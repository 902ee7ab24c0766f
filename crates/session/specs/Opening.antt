-- What a day may be opened with.
use Rattle.std.specs.Prelude.{ℕ, Bool, cond, ◌&&◌, Some, None, Option, nat_le}
use Rattle.figures.specs.Prices.{in_range}
use Rattle.session.specs.declared.fault.SessionFault.{SessionFault}
use Rattle.session.specs.declared.fault.SessionFault.TheVariants.{Reference, ReplyTime}

-- in seconds
abbrev pub is_reply_time : ℕ → Bool
is_reply_time seconds = nat_le 1 seconds && nat_le seconds 60

-- the reference need not be on tick
abbrev pub particulars_fault : ℕ → ℕ → Option SessionFault
particulars_fault reference reply =
    cond (in_range reference) (cond (is_reply_time reply) None (Some ReplyTime)) (Some Reference)
