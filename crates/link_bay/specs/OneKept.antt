-- What the provider of one peer keeps of its fields.
use Rattle.std.specs.Prelude.{ℕ, ◌≡◌, ◌≤◌, Bool, true, false, List, [], length, drop}
use Rattle.link_bay.specs.ExactPeer.{nothing_yet, follow, says}
use Rattle.link_bay.specs.declared.writes.Write.{Write}

pub record IsOneBay (joined accepted : Bool) (said : List ℕ) (place : ℕ) (sent : List ℕ) (followed : ℕ) (writes : List Write) (waits unheard : ℕ) : Type 0 where
  -- no more is handed out than was said, and no more followed than was sent
  pub handed : place ≤ length said
  pub behind : followed ≤ length sent
  -- what is said is what an exact peer says to the bytes sent, and those not followed are behind the last whole frame
  pub exact : said ≡ says joined sent
  pub unfollowed : (follow nothing_yet sent).rest ≡ drop followed sent
  -- nobody is accepted that was not ordered
  pub ordered : accepted ≡ true → joined ≡ true
  -- nothing is handed out or taken before the peer was accepted
  pub unread : accepted ≡ false → place ≡ 0
  pub unsent : accepted ≡ false → sent ≡ []
  pub unwritten : accepted ≡ false → writes ≡ []
  pub unwaited : accepted ≡ false → waits ≡ 0
  pub all_heard : accepted ≡ false → unheard ≡ 0
