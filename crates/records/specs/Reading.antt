-- What forty bytes hold.
use Rattle.std.specs.Prelude.{ℕ, ◌+◌, ◌-◌, ◌*◌, cond, ◌&&◌, List, [], ◌∷◌, length, take, drop, Some, None, Ok, Err, Option, Result, ◌==◌, nat_le, slice_index}
use Rattle.records.specs.declared.line.Line.{Line}
use Rattle.records.specs.declared.line.Unreadable.{Unreadable}

-- 48 is the byte of the digit 0, 57 that of 9
abbrev pub digit_of : ℕ → Option ℕ
digit_of byte = cond (nat_le 48 byte && nat_le byte 57) (Some (byte - 48)) None

-- one digit more behind those that stand for n
abbrev pub more : Option ℕ → ℕ → Option ℕ
more None n = None
more (Some d) n = Some (n * 10 + d)

abbrev pub number_from : Option ℕ → List ℕ → Option ℕ
number_from None bytes = None
number_from (Some n) [] = Some n
number_from (Some n) (b ∷ bs) = number_from (more (digit_of b) n) bs

-- the number that decimal digits stand for, if they are digits all
abbrev pub number_of : List ℕ → Option ℕ
number_of bytes = number_from (Some 0) bytes

abbrev pub unreadable : Unreadable
unreadable = record {}

abbrev pub or_unreadable : Option ℕ → Result ℕ Unreadable
or_unreadable None = Err unreadable
or_unreadable (Some n) = Ok n

-- the number of `size` digits from place `at` on
abbrev pub field_at : List ℕ → ℕ → ℕ → Result ℕ Unreadable
field_at bytes at size = or_unreadable (number_of (take size (drop at bytes)))

abbrev pub then : {Y : Type 0} → Result ℕ Unreadable → (ℕ → Result Y Unreadable) → Result Y Unreadable
then (Err e) rest = Err e
then (Ok n) rest = rest n

abbrev pub line : ℕ → ℕ → ℕ → ℕ → ℕ → ℕ → ℕ → Line
line l m n a b c d = record { letter = l; mark = m; five = n; first = a; second = b; third = c; fourth = d }

-- 5 digits, four times 8, and a newline
abbrev pub body_of : ℕ → ℕ → List ℕ → Result Line Unreadable
body_of letter mark rest =
    cond (length rest == 38 && slice_index rest 37 == 10)
    (then (field_at rest 0 5) (λ n.
    then (field_at rest 5 8) (λ a.
    then (field_at rest 13 8) (λ b.
    then (field_at rest 21 8) (λ c.
    then (field_at rest 29 8) (λ d.
    Ok (line letter mark n a b c d)))))))
    (Err unreadable)

unfoldable pub line_of : List ℕ → Result Line Unreadable
line_of [] = Err unreadable
line_of (letter ∷ []) = Err unreadable
line_of (letter ∷ mark ∷ rest) = body_of letter mark rest
