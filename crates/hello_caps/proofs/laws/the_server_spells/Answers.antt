use Rattle.std.proofs.Common.{ℕ, List, length, ap}
use Rattle.hello_caps.proofs.Spellings.{exact_hello, lossy_hello, hello_written, not_hello, no_encoding, uuid_too_long, goodbye_written}
use Rattle.hello_caps.proofs.laws.the_server_spells.Goals as goal

pub returns : goal.returns
returns c = record {
  exact = exact_hello;
  lossy = lossy_hello;
  sized = ap (λ (bytes : List ℕ). length bytes) exact_hello;
  hello = hello_written;
  not_hello = not_hello;
  no_encoding = no_encoding;
  long_uuid = uuid_too_long;
  goodbye = goodbye_written;
}
