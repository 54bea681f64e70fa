-- What is known of one connection.
use Rattle.std.specs.Prelude.{ℕ, ◌≡◌, ◌≢◌, Bool, Option, List}
use Rattle.xp_base.specs.Told.{told_empty}

-- the bytes that were taken on it and handed out on it, for each byte taken how many had been handed out by then, and counts:
-- faults, writes of a non-empty piece that took nothing, reads that had to wait, reads that met the end;
-- how many writes in a row have taken nothing up to now, the most that ever did,
-- and how many bytes were taken since its last read that had to wait
pub record ConnectionRecord : Type 0 where
  pub sent : Option (List ℕ)
  pub given : Option (List ℕ)
  pub heard : Option (List ℕ)
  pub faults : ℕ
  pub dry : ℕ
  pub waits : ℕ
  pub ends : ℕ
  pub drought : ℕ
  pub worst : ℕ
  pub unheard : ℕ

-- a connection that was just handed out, of a provider that tells its bytes or of one that does not
abbrev pub fresh_connection : Bool → ConnectionRecord
fresh_connection tells = record {
  sent = told_empty tells;
  given = told_empty tells;
  heard = told_empty tells;
  faults = 0;
  dry = 0;
  waits = 0;
  ends = 0;
  drought = 0;
  worst = 0;
  unheard = 0;
}

-- every connection but this one stays as it was
abbrev pub OthersStay : (ℕ → ConnectionRecord) → (ℕ → ConnectionRecord) → ℕ → Type 0
OthersStay old new c = (d : ℕ) → d ≢ c → new d ≡ old d

-- every connection stays as it was
abbrev pub AllStay : (ℕ → ConnectionRecord) → (ℕ → ConnectionRecord) → Type 0
AllStay old new = (d : ℕ) → new d ≡ old d
