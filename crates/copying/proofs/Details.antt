-- The detail of every refusal of a text of at most 65,537 bytes fits 32 bits: it is a line of the text, or less than 8.
-- Assumes nothing.
use mathlib.Core.Path.{◌≡◌}
use mathlib.Core.List.{List}
use Prim.Native.Nat.{ℕ, ◌^◌, ◌≤◌, ◌<◌}
use native.Mathlib.Omega.{arith}
use lib.ListN.{length}
use Rattle.base.specs.Said.{refuses}
use Rattle.listing.proofs.Details.{lines_few, each_one, fault_detail}
use Rattle.kbm_read.specs.Reader.{read_of}
use Rattle.kbm_read.proofs.Language.{refuses_fault}

-- so every detail is written whole
pub detail_whole : (room : ℕ) (s : List ℕ) (n d : ℕ) → length s ≤ 65537 → read_of room s ≡ refuses n d → d < 2 ^ 32
detail_whole room s n d h e =
    let f = (refuses_fault room s n d).0 e in
    omega (arith, fault_detail f.fault, lines_few f.text.lines, each_one _ f.text.parts f.says f.text.each, h)
