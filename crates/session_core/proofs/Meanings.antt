-- Why a connection ends, from what the provider knows of it.
use Rattle.std.proofs.Common.{◌≡◌, ◌≢◌, ◌≤◌, ◌+◌, inl, inr, ℕ, Bool, true, false, List, [], Option, Some, None, refl, ap, ◌∙◌, sym, subst, arith}
use Rattle.std.specs.Option.{option_map}
use Rattle.std.specs.Prelude.{IfSome}
use Rattle.xp_base.specs.Counts.{Rose, RoseBy, RoseOnlyIf}
use Rattle.xp_base.specs.Told.{told_append}
use Rattle.link_bay.specs.Connections.{ConnectionRecord}
use Rattle.link_bay.specs.Answers.{ReadGives, WriteGives, is_dry}
use Rattle.link_bay.specs.declared.bay.Gave.{Gave}
use Rattle.link_bay.specs.declared.bay.Gave.TheVariants as G
use Rattle.link_bay.specs.declared.bay.Wrote.{Wrote}
use Rattle.link_bay.specs.declared.bay.Wrote.TheVariants as W
use Rattle.window_model.specs.Desktop.{Window}
use Rattle.first_script.specs.declared.paint.Paint.{Paint}
use Rattle.client_connection.specs.declared.ends.End.{End}
use Rattle.client_connection.specs.declared.ends.End.TheVariants as E
use Rattle.client_connection.specs.declared.ends.Trouble.{Trouble}
use Rattle.client_connection.specs.declared.ends.Trouble.TheVariants as T
use Rattle.session_core.specs.Causes.{BreaksOff, BreaksOffSince, DropMeans, GaveUnbuilt}
use Rattle.client_connection.specs.Clients.{ClientSeen, plain}
use Rattle.client_connection.specs.Given.{IsGivenFor}
use Rattle.client_connection.specs.Hearing.{IsUnbuilt}
use Rattle.session_core.specs.Reading.{ending_answer}
use Rattle.session_core.specs.State.{is_unended}
use Rattle.session_core.specs.Steps.{receive_ends}
use Rattle.session_core.proofs.Each.{InSlot}
use Rattle.session_core.proofs.Steadies.{IsKeptOf}
use Rattle.client_connection.proofs.Givens.{unbuilt_given}
use Rattle.session_core.proofs.Writings.{EndsSlot, why_unbuilt, why_short}

-- what a read gave stands behind what was given
pub gave_is : (was now : ConnectionRecord) (bytes : List ℕ) (most n : ℕ) → ReadGives was now [] bytes most (G.Bytes n) → now ≡ record was { given = told_append was.given bytes }
gave_is was now bytes most n gives = gives.5 ∙ ap (λ bs. record was { given = told_append was.given bs }) (sym gives.4)

pub rose_some : (was now : ℕ) → Rose was now → now ≢ 0
rose_some was now rose = λ none. absurd (omega (arith, rose.risen, none))

unbuilt_where : (lines : List Paint) (desk : List Window) (c : ClientSeen) (given : Option (List ℕ)) (bytes : List ℕ) → IsUnbuilt lines desk c bytes → IsGivenFor lines c given → GaveUnbuilt lines (told_append given bytes)
unbuilt_where lines desk c None bytes unbuilt is = tt
unbuilt_where lines desk c (Some given) bytes unbuilt is = unbuilt_given lines desk c given bytes unbuilt is

-- a read gave bytes of no form that is built
pub unbuilt_means : (tells : Bool) (lines : List Paint) (desk : List Window) (was now : ConnectionRecord) (slot : Option ClientSeen) (bytes : List ℕ) (n : ℕ) → slot ≢ None → ReadGives was now [] bytes 4096 (G.Bytes n)
    → IfSome (option_map plain slot) (λ c. IsUnbuilt lines desk c bytes) → InSlot (IsKeptOf tells lines desk) slot was → BreaksOffSince lines was now
unbuilt_means tells lines desk was now None bytes n some gives unbuilt kept = absurd (some refl)
unbuilt_means tells lines desk was now (Some c) bytes n some gives unbuilt kept =
    inr (inr (inr (subst (λ (r : ConnectionRecord). GaveUnbuilt lines r.given) (sym (gave_is was now bytes 4096 n gives)) (unbuilt_where lines desk (plain c) was.given bytes unbuilt (kept (plain c) refl).1.given))))

-- a read gave bytes with which there is trouble: how that is answered, and what the end means
pub trouble_ends : (tells : Bool) (lines : List Paint) (desk : List Window) (was now : ConnectionRecord) (slot : Option ClientSeen) (bytes : List ℕ) (n : ℕ) (trouble : Trouble) (e : End) → slot ≢ None
    → ReadGives was now [] bytes 4096 (G.Bytes n) → (trouble ≡ T.Unbuilt → IfSome (option_map plain slot) (λ c. IsUnbuilt lines desk c bytes)) → InSlot (IsKeptOf tells lines desk) slot was
    → (trouble ≡ T.Unbuilt → e ≡ E.Unbuilt) → (trouble ≡ T.NoMemory → e ≡ E.Short)
    → EndsSlot was now lines desk (option_map plain slot) (ending_answer e) × (receive_ends (ending_answer e) ≡ Some e) × (is_unended e ≡ false) × DropMeans lines was e now
trouble_ends tells lines desk was now slot bytes n T.Unbuilt e some gives unbuilt kept ends short =
    subst (λ (d : End). EndsSlot was now lines desk (option_map plain slot) (ending_answer d) × (receive_ends (ending_answer d) ≡ Some d) × (is_unended d ≡ false) × DropMeans lines was d now) (sym (ends refl))
    (why_unbuilt was now lines desk slot bytes n some gives (unbuilt refl), refl, refl, unbuilt_means tells lines desk was now slot bytes n some gives (unbuilt refl) kept)
trouble_ends tells lines desk was now slot bytes n T.NoMemory e some gives unbuilt kept ends short =
    subst (λ (d : End). EndsSlot was now lines desk (option_map plain slot) (ending_answer d) × (receive_ends (ending_answer d) ≡ Some d) × (is_unended d ≡ false) × DropMeans lines was d now) (sym (short refl))
    (why_short was now lines desk slot bytes n some gives, refl, refl, tt)

-- its last read had to wait, and no byte was sent after it
abbrev pub HasWaited : ConnectionRecord → Type 0
HasWaited r = (r.unheard ≡ 0) × (r.waits ≢ 0)

-- no count of a connection fell
pub record CountsLater (was now : ConnectionRecord) : Type 0 where
  pub faults : was.faults ≤ now.faults
  pub ends : was.ends ≤ now.ends
  pub dry : was.dry ≤ now.dry
  pub waits : was.waits ≤ now.waits

pub later_same : (was now : ConnectionRecord) → now ≡ was → CountsLater was now
later_same was now same = rw same (record { faults = omega arith; ends = omega arith; dry = omega arith; waits = omega arith })

pub later_on : (was mid now : ConnectionRecord) → CountsLater was mid → CountsLater mid now → CountsLater was now
later_on was mid now first second = record {
  faults = omega (arith, first.faults, second.faults);
  ends = omega (arith, first.ends, second.ends);
  dry = omega (arith, first.dry, second.dry);
  waits = omega (arith, first.waits, second.waits);
}

pub later_read : (was now : ConnectionRecord) (into into' : List ℕ) (most : ℕ) (gave : Gave) → ReadGives was now into into' most gave → CountsLater was now
later_read was now into into' most (G.Bytes n) gives = rw gives.5 (record { faults = omega arith; ends = omega arith; dry = omega arith; waits = omega arith })
later_read was now into into' most G.Again gives = rw gives.2 (record { faults = omega arith; ends = omega arith; dry = omega arith; waits = gives.1.later })
later_read was now into into' most G.End gives = rw gives.2 (record { faults = omega arith; ends = gives.1.later; dry = omega arith; waits = omega arith })
later_read was now into into' most G.Failed gives = rw gives.2 (record { faults = gives.1.later; ends = omega arith; dry = omega arith; waits = omega arith })
later_read was now into into' most G.NoMemory gives = later_same was now gives.1

dry_later : (b : Bool) (was now : ℕ) → RoseOnlyIf b was now → was ≤ now
dry_later true was now rose = rose.later
dry_later false was now same = omega (arith, same)

pub later_wrote : (was now : ConnectionRecord) (piece : List ℕ) (w : Wrote) → WriteGives was now piece w → CountsLater was now
later_wrote was now piece (W.Took n) gives = rw gives.2 (record { faults = omega arith; ends = omega arith; dry = dry_later (is_dry piece n) was.dry now.dry gives.1; waits = omega arith })
later_wrote was now piece W.Failed gives = rw gives.1 (record { faults = gives.0.later; ends = omega arith; dry = omega arith; waits = omega arith })
later_wrote was now piece W.NoMemory gives = later_same was now gives

-- what rose since a later time rose since an earlier one
pub rose_since : (was mid now : ℕ) → was ≤ mid → Rose mid now → Rose was now
rose_since was mid now first rose = record { later = omega (arith, first, rose.later); risen = omega (arith, first, rose.risen) }

rose_by_since : (was mid now : ℕ) → was ≤ mid → RoseBy 1000 mid now → RoseBy 1000 was now
rose_by_since was mid now first rose = record { later = omega (arith, first, rose.later); risen = omega (arith, first, rose.risen) }

pub breaks_since : (lines : List Paint) (was mid now : ConnectionRecord) → CountsLater was mid → BreaksOffSince lines mid now → BreaksOffSince lines was now
breaks_since lines was mid now later (inl faults) = inl (rose_since was.faults mid.faults now.faults later.faults faults)
breaks_since lines was mid now later (inr (inl ends)) = inr (inl (rose_since was.ends mid.ends now.ends later.ends ends))
breaks_since lines was mid now later (inr (inr (inl dry))) = inr (inr (inl (rose_by_since was.dry mid.dry now.dry later.dry dry.0, dry.1)))
breaks_since lines was mid now later (inr (inr (inr unbuilt))) = inr (inr (inr unbuilt))

pub drop_since : (lines : List Paint) (was mid now : ConnectionRecord) (e : End) → CountsLater was mid → DropMeans lines mid e now → DropMeans lines was e now
drop_since lines was mid now E.Settled later means = absurd means
drop_since lines was mid now E.Unbuilt later means = breaks_since lines was mid now later means
drop_since lines was mid now E.Short later means = tt
drop_since lines was mid now E.Unended later means = absurd means

-- and it is so of the whole connection
rose_by_some : (was now : ℕ) → RoseBy 1000 was now → 1000 ≤ now
rose_by_some was now rose = omega (arith, rose.risen)

pub breaks_off : (lines : List Paint) (was now : ConnectionRecord) → BreaksOffSince lines was now → BreaksOff lines now
breaks_off lines was now (inl faults) = inl (rose_some was.faults now.faults faults)
breaks_off lines was now (inr (inl ends)) = inr (inl (rose_some was.ends now.ends ends))
breaks_off lines was now (inr (inr (inl dry))) = inr (inr (inl (rose_by_some was.dry now.dry dry.0, dry.1)))
breaks_off lines was now (inr (inr (inr unbuilt))) = inr (inr (inr unbuilt))

-- it rose once more
pub rose_more : (n was mid now : ℕ) → RoseBy n was mid → Rose mid now → RoseBy (n + 1) was now
rose_more n was mid now by once = record { later = omega (arith, by.later, once.later); risen = omega (arith, by.risen, once.risen) }
