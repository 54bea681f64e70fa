-- Acts for a connection, one after another, and steps of settling.
use Rattle.std.proofs.Common.{◌≡◌, inl, inr, ℕ, ◌≤◌, Bool, List, [], ◌∷◌, ◌++◌, refl, ap, subst}
use Rattle.link_bay.specs.Connections.{ConnectionRecord, OthersStay}
use Rattle.link_bay.specs.Provider.{ProviderRecord}
use Rattle.session_core.specs.declared.answers.Received.{Received}
use Rattle.session_core.specs.declared.answers.Received.TheVariants.{Again}
use Rattle.client_connection.specs.declared.answers.Captured.{Captured}
use Rattle.client_connection.specs.declared.answers.Sent.{Sent}
use Rattle.session_core.specs.State.{Seen}
use Rattle.session_core.specs.Steps.{Receives, Captures, Sends}
use Rattle.session_core.specs.Settling.{KeepsOthers, ActsOnce, ActsThrough, Acts, EndsWaiting, SettlingStep, SettlingThrough, Settling}

acts_append : {B : Type 0} (provider : B → ProviderRecord) (connection : B → ℕ → ConnectionRecord) (k : ℕ) (first second : List (Seen B)) (old now new : Seen B)
    → ActsThrough provider connection k first old now → ActsThrough provider connection k second now new → ActsThrough provider connection k (first ++ second) old new
acts_append provider connection k [] second old now new one two = subst (λ (s : Seen _). ActsThrough provider connection k second s new) one two
acts_append provider connection k (next ∷ first) second old now new one two = (one.0, acts_append provider connection k first second next now new one.1 two)

-- acts, and then more
pub acts_on : {B : Type 0} (provider : B → ProviderRecord) (connection : B → ℕ → ConnectionRecord) (k : ℕ) (old now new : Seen B) → Acts provider connection k old now → Acts provider connection k now new → Acts provider connection k old new
acts_on provider connection k old now new one two = (one.0 ++ two.0, acts_append provider connection k one.0 two.0 old now new one.1 two.1)

acts_once : {B : Type 0} (provider : B → ProviderRecord) (connection : B → ℕ → ConnectionRecord) (k : ℕ) (old now new : Seen B) → Acts provider connection k old now → ActsOnce provider connection k now new → Acts provider connection k old new
acts_once provider connection k old now new acts act = acts_on provider connection k old now new acts (new ∷ [], (act, refl))

keeps : {B : Type 0} (provider : B → ProviderRecord) (connection : B → ℕ → ConnectionRecord) (k : ℕ) (was now : B) → provider now ≡ provider was → OthersStay (connection was) (connection now) k → KeepsOthers provider connection k was now
keeps provider connection k was now same others = record { provider_stays = same; others = others }

pub acts_receive : {B : Type 0} (provider : B → ProviderRecord) (connection : B → ℕ → ConnectionRecord) (k : ℕ) (old now new : Seen B) (answer : Received) → Acts provider connection k old now
    → provider new.bay ≡ provider now.bay → OthersStay (connection now.bay) (connection new.bay) k → Receives connection k now answer new → Acts provider connection k old new
acts_receive provider connection k old now new answer acts same others receives = acts_once provider connection k old now new acts (keeps provider connection k now.bay new.bay same others, inl (answer, receives))

pub acts_capture : {B : Type 0} (provider : B → ProviderRecord) (connection : B → ℕ → ConnectionRecord) (k wid : ℕ) (old now new : Seen B) (answer : Captured) → Acts provider connection k old now → new.bay ≡ now.bay
    → Captures k wid now answer new → Acts provider connection k old new
acts_capture provider connection k wid old now new answer acts same captures =
    acts_once provider connection k old now new acts (keeps provider connection k now.bay new.bay (ap provider same) (λ d other. ap (λ b. connection b d) same), inr (inl (wid, answer, captures)))

pub acts_send : {B : Type 0} (provider : B → ProviderRecord) (connection : B → ℕ → ConnectionRecord) (k most : ℕ) (old now new : Seen B) (answer : Sent) → 1 ≤ most → Acts provider connection k old now
    → provider new.bay ≡ provider now.bay → OthersStay (connection now.bay) (connection new.bay) k → Sends connection k most now answer new → Acts provider connection k old new
acts_send provider connection k most old now new answer some acts same others sends =
    acts_once provider connection k old now new acts (keeps provider connection k now.bay new.bay same others, inr (inr (most, answer, some, sends)))

-- acts, and then a read that had to wait
pub acts_read_out : {B : Type 0} (provider : B → ProviderRecord) (connection : B → ℕ → ConnectionRecord) (k : ℕ) (old now new : Seen B) → Acts provider connection k old now
    → provider new.bay ≡ provider now.bay → OthersStay (connection now.bay) (connection new.bay) k → Receives connection k now Again new → EndsWaiting provider connection k old new
acts_read_out provider connection k old now new acts same others receives = (now, acts, keeps provider connection k now.bay new.bay same others, receives)

pub acts_waiting : {B : Type 0} (provider : B → ProviderRecord) (connection : B → ℕ → ConnectionRecord) (k : ℕ) (old now new : Seen B) → Acts provider connection k old now → EndsWaiting provider connection k now new → EndsWaiting provider connection k old new
acts_waiting provider connection k old now new acts waits = (waits.0, acts_on provider connection k old now waits.0 acts waits.1, waits.2, waits.3)

-- no step, one step, and one after the other
pub settling_none : {B : Type 0} (provider : B → ProviderRecord) (connection : B → ℕ → ConnectionRecord) (tells : Bool) (s : Seen B) → Settling provider connection tells s s
settling_none provider connection tells s = ([], refl)

settling_append : {B : Type 0} (provider : B → ProviderRecord) (connection : B → ℕ → ConnectionRecord) (tells : Bool) (first second : List (Seen B)) (old now new : Seen B)
    → SettlingThrough provider connection tells first old now → SettlingThrough provider connection tells second now new → SettlingThrough provider connection tells (first ++ second) old new
settling_append provider connection tells [] second old now new one two = subst (λ (s : Seen _). SettlingThrough provider connection tells second s new) one two
settling_append provider connection tells (next ∷ first) second old now new one two = (one.0, settling_append provider connection tells first second next now new one.1 two)

pub settling_on : {B : Type 0} (provider : B → ProviderRecord) (connection : B → ℕ → ConnectionRecord) (tells : Bool) (old now new : Seen B) → Settling provider connection tells old now → Settling provider connection tells now new
    → Settling provider connection tells old new
settling_on provider connection tells old now new one two = (one.0 ++ two.0, settling_append provider connection tells one.0 two.0 old now new one.1 two.1)

pub settling_once : {B : Type 0} (provider : B → ProviderRecord) (connection : B → ℕ → ConnectionRecord) (tells : Bool) (old new : Seen B) → SettlingStep provider connection tells old new → Settling provider connection tells old new
settling_once provider connection tells old new step = (new ∷ [], (step, refl))
