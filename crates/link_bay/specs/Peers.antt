-- What the provider of one peer keeps.
use Rattle.std.specs.Prelude.{ℕ, zero, suc, Bool, true, false, ◌&&◌, not, if◌then◌else◌, Some, None, List, []}
use Rattle.link_bay.specs.Connections.{ConnectionRecord, fresh_connection}
use Rattle.link_bay.specs.Provider.{ProviderRecord}

-- whether the peer was ordered and whether it was accepted, the bytes taken and handed out, and counts
pub record OnePeer : Type 0 where
  pub joined : Bool
  pub accepted : Bool
  pub sent : List ℕ
  pub given : List ℕ
  pub heard : List ℕ
  pub lulls : ℕ
  pub waits : ℕ
  pub unheard : ℕ

-- nothing was ordered yet
abbrev pub no_peer : OnePeer
no_peer = record { joined = false; accepted = false; sent = []; given = []; heard = []; lulls = 0; waits = 0; unheard = 0 }

-- connection 0 is the peer's
abbrev pub one_connection : OnePeer → ℕ → ConnectionRecord
one_connection p zero = record {
  sent = Some p.sent;
  given = Some p.given;
  heard = Some p.heard;
  faults = 0;
  dry = 0;
  waits = p.waits;
  ends = 0;
  drought = 0;
  worst = 0;
  unheard = p.unheard;
}
one_connection p (suc c) = fresh_connection true

-- there is room for a peer that was ordered and not accepted yet
abbrev pub one_provider : OnePeer → ProviderRecord
one_provider p = record {
  count = if p.accepted then 1 else 0;
  asked = None;
  room = if p.joined && not p.accepted then 1 else 0;
  faults = 0;
  lulls = p.lulls;
}
