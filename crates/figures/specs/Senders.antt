-- The numbers that providers send under.
use Rattle.std.specs.Prelude.{ℕ, Bool, ◌&&◌, nat_le}

abbrev pub is_sender : ℕ → Bool
is_sender sender = nat_le 1 sender && nat_le sender 99999
