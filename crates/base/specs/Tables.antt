-- Lent tables: what stands in one after entries were written from its first place on. Assumes nothing.
use Rattle.std.specs.Prelude.{List, ◌++◌, length, drop}
use Rattle.base.specs.Said.{Said, gives, refuses}

-- the new entries, and after them what was there
abbrev pub over : {A : Type 0} → List A → List A → List A
over old new = new ++ drop (length new) old

-- a table after a call: the entries of what was given are written, a refusal leaves it as it was
abbrev pub after : {A B : Type 0} → Said A → (A → List B) → List B → List B
after (gives a) entries old = over old (entries a)
after (refuses number detail) entries old = old
