-- What a line does not use: the mark is -, and each number 0.
use Rattle.std.specs.Prelude.{ℕ, Bool, ◌&&◌, ◌==◌}
use Rattle.records.specs.declared.line.Line.{Line}

abbrev pub is_plain : ℕ → Bool
is_plain mark = mark == 45

abbrev pub empty_from_third : Line → Bool
empty_from_third l = l.third == 0 && l.fourth == 0

abbrev pub empty_from_second : Line → Bool
empty_from_second l = l.second == 0 && empty_from_third l

abbrev pub empty_from_first : Line → Bool
empty_from_first l = l.first == 0 && empty_from_second l

-- a letter and nothing more
abbrev pub is_bare : Line → Bool
is_bare l = is_plain l.mark && (l.five == 0 && empty_from_first l)
