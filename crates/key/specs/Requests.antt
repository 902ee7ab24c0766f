-- What a line asks for: a letter, its mark and its numbers, with 0 and - where nothing is asked.
use Rattle.std.specs.Prelude.{cond, Some, None, Option, ◌==◌}
use Rattle.records.specs.declared.line.Line.{Line}
use Rattle.program.specs.Openings.{opening_of, where', with}
use Rattle.program.specs.Unused.{is_bare}
use Rattle.key.specs.declared.request.Request.{Request}
use Rattle.key.specs.declared.request.Request.TheVariants.{Open, Close}

-- X: nothing more than the mark -
abbrev pub close_request : Line → Option Request
close_request l = where' (is_bare l) Close

-- the letters O and X
abbrev pub request_of : Line → Option Request
request_of l = cond (l.letter == 79) (with (opening_of l) (λ o. Some (Open o))) (cond (l.letter == 88) (close_request l) None)
