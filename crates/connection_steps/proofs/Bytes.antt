-- Steps that move no byte, and bytes that are told or not.
use Rattle.std.proofs.Common.{ℕ, Bool, true, false, List, [], ◌++◌, refl, sym, ap, ◌∙◌, subst, arith}
use Rattle.xp_base.specs.Told.{told_append}
use Rattle.link_bay.specs.Connections.{ConnectionRecord, fresh_connection}
use Rattle.packet_frames.specs.Stream.{read_on}
use Rattle.connection_ends.specs.Causes.{TellsThat}
use Rattle.connection_steps.specs.Kept.{IsToldAs}
use Rattle.connection_steps.specs.Laws.{AcceptedIsKept, SameBytes, WaitingKeeps, Gives}

pub same_told : (tells : Bool) (r r' : ConnectionRecord) (sent given heard : List ℕ) → SameBytes r r' → IsToldAs tells r sent given heard → IsToldAs tells r' sent given heard
same_told true r r' sent given heard same told = (same.sent ∙ told.0, same.given ∙ told.1, same.heard ∙ told.2)
same_told false r r' sent given heard same told = (same.sent ∙ told.0, same.given ∙ told.1, same.heard ∙ told.2)

pub waiting_keeps : WaitingKeeps
waiting_keeps tells desk were_opened k r r' c same kept = record {
  sent = kept.sent;
  given = kept.given;
  heard = kept.heard;
  told = same_told tells r r' kept.sent kept.given kept.heard same kept.told;
  for_each = kept.for_each;
  listens = kept.listens;
  client = kept.client;
  marks = kept.marks;
  unseen = kept.unseen;
}

-- the bytes given, with more of them
pub given_told : (tells : Bool) (r r' : ConnectionRecord) (sent given heard bytes : List ℕ) → Gives bytes r r' → IsToldAs tells r sent given heard → IsToldAs tells r' sent (given ++ bytes) heard
given_told true r r' sent given heard bytes gives told = (gives.sent ∙ told.0, gives.given ∙ ap (λ o. told_append o bytes) told.1, gives.heard ∙ told.2)
given_told false r r' sent given heard bytes gives told = (gives.sent ∙ told.0, gives.given ∙ ap (λ o. told_append o bytes) told.1, gives.heard ∙ told.2)

-- what holds of the bytes holds of those that are told
pub tells_given : (tells : Bool) (r : ConnectionRecord) (sent given heard : List ℕ) (P : List ℕ → Type 0) → IsToldAs tells r sent given heard → P given → TellsThat r.given P
tells_given true r sent given heard P told is = subst (λ o. TellsThat o P) (sym told.1) is
tells_given false r sent given heard P told is = subst (λ o. TellsThat o P) (sym told.1) tt

pub tells_sent : (tells : Bool) (r : ConnectionRecord) (sent given heard : List ℕ) (P : List ℕ → Type 0) → IsToldAs tells r sent given heard → P sent → TellsThat r.sent P
tells_sent true r sent given heard P told is = subst (λ o. TellsThat o P) (sym told.0) is
tells_sent false r sent given heard P told is = subst (λ o. TellsThat o P) (sym told.0) tt

pub accepted_kept : AcceptedIsKept
unfolding read_on
accepted_kept tells desk were_opened k = record {
  sent = [];
  given = [];
  heard = [];
  told = told tells;
  for_each = refl;
  listens = record {
    limit = refl;
    going = refl;
    nothing_left = refl;
    packets = [];
    all = refl;
    said = (refl, refl);
  };
  client = refl;
  marks = tt;
  unseen = λ wid n unopened low shown. absurd (omega (arith, low));
}
  where
    told : (tells : Bool) → IsToldAs tells (fresh_connection tells) [] [] []
    told true = (refl, refl, refl)
    told false = (refl, refl, refl)
