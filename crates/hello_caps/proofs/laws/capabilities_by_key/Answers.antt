use Rattle.hello_caps.proofs.ByKey.{no_encoding_tells, no_encoding_told, long_uuid_tells, long_uuid_told, accepted_tells, accepted_told, lossy_tells, lossy_told, uuid_told, anonymous_told, uuid_short}
use Rattle.hello_caps.proofs.laws.capabilities_by_key.Goals as goal

pub returns : goal.returns
returns c = record {
  no_encoding = λ pairs. (no_encoding_tells pairs, no_encoding_told pairs);
  long_uuid = λ pairs size. (long_uuid_tells pairs size, λ h. long_uuid_told pairs size h.0 h.1);
  accepted = λ pairs. (accepted_tells pairs, λ h. accepted_told pairs h.0 h.1);
  lossy = λ pairs caps e. (lossy_tells pairs caps e, lossy_told pairs caps e);
  uuid = uuid_told;
  anonymous = anonymous_told;
  short = uuid_short;
}
