-- The next token of a line that is known to be a form, as code takes it.
use Rattle.std.specs.Prelude.{ℕ, cond, List, [], ◌∷◌, length, ◌==◌}
use Rattle.format.specs.Form.{Kind, letters, digits, Token, opened, closed, hyphen, run, belongs}

-- the bytes in front that belong to a run
unfoldable pub front : Kind → List ℕ → List ℕ
front k [] = []
front k (c ∷ t) = cond (belongs k c) (c ∷ front k t) []

pub data Lexed : Type 0 where
  item : Token → Lexed
  over : Lexed

abbrev pub lex_item : List ℕ → Lexed
lex_item [] = over
lex_item (c ∷ t) =
    cond (belongs letters c) (item (run letters (front letters (c ∷ t))))
    (cond (belongs digits c) (item (run digits (front digits (c ∷ t))))
    (cond (c == 45) (item hyphen)
    (cond (c == 40) (item opened)
    (cond (c == 41) (item closed) over))))

-- past a space, if one stands there
abbrev pub lex : List ℕ → Lexed
lex [] = over
lex (c ∷ t) = cond (c == 32) (lex_item t) (lex_item (c ∷ t))

abbrev pub gap : List ℕ → ℕ
gap [] = 0
gap (c ∷ t) = cond (c == 32) 1 0

abbrev pub width : Token → ℕ
width opened = 1
width closed = 1
width hyphen = 1
width (run k w) = length w
