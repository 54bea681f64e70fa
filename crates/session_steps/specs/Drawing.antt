-- What is drawn for the client of a connection: captures, results, and jobs that are given back. The provider is not asked.
use Rattle.std.specs.Prelude.{ℕ, ◌≡◌, Bool, true, false, is_some, Option, Some, None, slice_get}
use Rattle.xp_base.specs.declared.numbers.Conn.{Conn}
use Rattle.connection_table.specs.Tables.{Open, open_at}
use Rattle.window_model.specs.Desktop.{Window}
use Rattle.attached_client.specs.Client.{ClientSeen}
use Rattle.attached_client.specs.Drawing.{Drawing, ClientDraws}
use Rattle.open_connection.specs.Connection.{ConnectionSeen}
use Rattle.open_connection.specs.Clear.{is_clear_connection}
use Rattle.open_connection.specs.Drawing.{ConnectionDraws, ConnectionNearer}
use Rattle.session_steps.specs.Seen.{Known, Seen}
use Rattle.session_steps.specs.Reading.{puts}
use Rattle.session_steps.specs.Steady.{Phase, IsSteady}

-- connection c is open and its client attached; all else stays
pub record DrawsOn {B : Type 0} (c : Conn) (drawing : Drawing) (old new : Seen B) : Type 0 where
  pub connection : ConnectionSeen
  pub client : ClientSeen
  pub after : ClientSeen
  pub opened : open_at old.slots c.0 ≡ Some connection
  pub attached : connection.client ≡ Some client
  pub draws : ClientDraws old.desk old.clock drawing client after
  pub changed : new ≡ puts c (Open (record connection { client = Some after })) old old.bay

abbrev pub DrawKeeps : Type 0 → Type 0
DrawKeeps B = (known : Known B) (phase : Phase) (were_opened : ℕ → Bool) (c : Conn) (drawing : Drawing) (old new : Seen B) → DrawsOn c drawing old new
    → IsSteady known phase were_opened old → IsSteady known phase were_opened new

-- connection c is open, its client is attached, and nothing is left to be drawn for it
abbrev pub is_clear_where : Option ConnectionSeen → Bool
is_clear_where None = false
is_clear_where (Some connection) = is_clear_connection connection

abbrev pub is_clear_at : {B : Type 0} → ℕ → Seen B → Bool
is_clear_at k s = is_clear_where (open_at s.slots k)

-- connection c is open, and its hello was accepted
abbrev pub is_attached_where : Option ConnectionSeen → Bool
is_attached_where None = false
is_attached_where (Some connection) = is_some connection.client

abbrev pub is_attached_at : {B : Type 0} → ℕ → Seen B → Bool
is_attached_at k s = is_attached_where (open_at s.slots k)

-- a window is drawn at once for the client of connection c, which is open; where no packet waited before, it is nearer to rest
pub record DrawsHere {B : Type 0} (c : Conn) (window : Window) (went_well : Bool) (connection : ConnectionSeen) (old new : Seen B) : Type 0 where
  pub after : ConnectionSeen
  pub draws : ConnectionDraws window old.clock connection after
  pub nearer : went_well ≡ true → ConnectionNearer window.wid connection after
  pub changed : new ≡ puts c (Open after) old old.bay

-- nothing changes where it is not open, or the desktop has no such window
abbrev pub DrawsWhere : {B : Type 0} → Conn → Option Window → Bool → Option ConnectionSeen → Seen B → Seen B → Type 0
DrawsWhere c None went_well connection old new = new ≡ old
DrawsWhere c (Some window) went_well None old new = new ≡ old
DrawsWhere c (Some window) went_well (Some connection) old new = DrawsHere c window went_well connection old new

-- the window at this place of the desktop, counted from the bottom
abbrev pub DrawsAt : {B : Type 0} → Conn → ℕ → Bool → Seen B → Seen B → Type 0
DrawsAt c place went_well old new = DrawsWhere c (slice_get old.desk place) went_well (open_at old.slots c.0) old new
