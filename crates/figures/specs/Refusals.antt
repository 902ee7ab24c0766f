-- Number, layer and field of each fault of this layer.
use Rattle.std.specs.Prelude.{ℕ}
use Rattle.figures.specs.declared.refusal.Layer.{Layer}
use Rattle.figures.specs.declared.refusal.Layer.TheVariants as layer
use Rattle.figures.specs.declared.refusal.Refusal.{Refusal}
use Rattle.figures.specs.declared.fault.Field.{Field}
use Rattle.figures.specs.declared.fault.Field.TheVariants as field
use Rattle.figures.specs.declared.fault.Term.{Term}
use Rattle.figures.specs.declared.fault.Term.TheVariants as term
use Rattle.figures.specs.declared.fault.FiguresFault.{FiguresFault}
use Rattle.figures.specs.declared.fault.FiguresFault.TheVariants.{Sender, Price, Beyond, Pieces, Crossed, Notice}

-- the letters F, B, S and P
abbrev pub letter_of : Layer → ℕ
letter_of layer.Figures = 70
letter_of layer.Book = 66
letter_of layer.Session = 83
letter_of layer.Program = 80

abbrev pub says : ℕ → Layer → ℕ → Refusal
says n l f = record { number = n; layer = l; field = f }

abbrev pub field_of : Field → ℕ
field_of field.Price = 1
field_of field.Pieces = 2
field_of field.Ask = 3
field_of field.AskPieces = 4

-- the place of a number among the three of a notice
abbrev pub place_of : Term → ℕ
place_of term.LimitOne = 1
place_of term.LimitTwo = 2
place_of term.Turnover = 3

abbrev pub figures_refusal : FiguresFault → Refusal
figures_refusal Sender = says 2 layer.Figures 5
figures_refusal (Price f) = says 5 layer.Figures (field_of f)
figures_refusal (Beyond f) = says 6 layer.Figures (field_of f)
figures_refusal (Pieces f) = says 7 layer.Figures (field_of f)
figures_refusal Crossed = says 11 layer.Figures 3
figures_refusal (Notice t) = says 17 layer.Figures (place_of t)
