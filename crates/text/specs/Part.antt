-- A part of a text, by where it starts and ends. Assumes nothing.
use Rattle.std.specs.Prelude.{List, ℕ, ◌-◌, take, drop}

-- the bytes of a text from place a up to place e: what a function sees that `&text[a..e]` is handed to
abbrev pub part : List ℕ → ℕ → ℕ → List ℕ
part text a e = take (e - a) (drop a text)
