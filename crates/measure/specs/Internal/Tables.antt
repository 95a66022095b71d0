-- The tables that are measured.
use Rattle.std.specs.Prelude.{ℕ, ◌≡◌, length}
use Rattle.device_cache.specs.Tables.{Table, size_of}

-- as many bytes as an image of 1920 by 1080 texels of four bytes has
abbrev pub image : ℕ
image = 8294400

-- as many bytes as sixteen pieces of 256 bytes have
abbrev pub row : ℕ
row = 4096

-- one memory of so many bytes, before two agents
pub record Holds (size : ℕ) (t : Table) : Type 0 where
  pub agents : t.agents ≡ 2
  pub memories : length t.memories ≡ 1
  pub size_is : size_of t 0 ≡ size

abbrev pub HoldsImage : Table → Type 0
HoldsImage t = Holds image t

abbrev pub HoldsRow : Table → Type 0
HoldsRow t = Holds row t
