-- What the two conversions between lines and bytes promise.
use Rattle.std.specs.Prelude.{◌≡◌, ℕ, List, Ok, Result}
use Rattle.records.specs.Reading.{line_of}
use Rattle.records.specs.Writing.{Fits, bytes_of}
use Rattle.records.specs.declared.line.Line.{Line}
use Rattle.records.specs.declared.line.Unreadable.{Unreadable}

-- bytes that hold a line are just what that line is written as
pub record Reads (bytes : List ℕ) (r : Result Line Unreadable) : Type 0 where
  pub is : r ≡ line_of bytes
  pub exact : (l : Line) → r ≡ Ok l → bytes ≡ bytes_of l

-- where each number has room, the line is read back from the bytes
pub record Writes (l : Line) (bytes : List ℕ) : Type 0 where
  pub is : bytes ≡ bytes_of l
  pub back : Fits l → line_of bytes ≡ Ok l
