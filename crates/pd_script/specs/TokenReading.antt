-- Tokens that several parts of the grammar read.
use Rattle.std.specs.Prelude.{ℕ, ⊤}
use Rattle.pd_lex.specs.Tokens.{line_of}
use Rattle.pd_script.specs.Items.{is_next_int_within_u32, is_symbol, is_dots, text_of}
use Rattle.pd_script.specs.Values.{number}
use Rattle.pd_script.specs.Reader.{Reader, ◌>>=◌, done, one}

-- a symbol, which gives its line
abbrev pub symbol_at : ℕ → Reader ℕ
symbol_at octet = do
  t ← one (is_symbol octet)
  done (line_of t)

-- a whole number
abbrev pub int_at : Reader ℕ
int_at = do
  t ← one is_next_int_within_u32
  done (number (text_of t))

-- `...`
abbrev pub dots_at : Reader ⊤
dots_at = do
  t ← one is_dots
  done tt
