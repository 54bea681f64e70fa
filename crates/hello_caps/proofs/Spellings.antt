-- The server's packets: their spellings, and that they may be written.
use Rattle.std.proofs.Common.{◌≡◌, ◌<◌, ◌^◌, ℕ, Bool, true, false, List, length, refl, ap, arith}
use Rattle.std.specs.Prelude.{None, codes}
use Rattle.std.specs.Fmt.{digits}
use Rattle.bencode_values.specs.declared.value.Value.{Value}
use Rattle.bencode_values.specs.declared.value.Value.TheVariants as V
use Rattle.bencode_values.specs.Grammar.{spelled, is_string, Fits}
use Rattle.bencode_values.proofs.Values.{spelled-Int, spelled-Bytes, spelled-List, spelled-Dict, spelled_pair-record, fits-Int, fits-Bytes, fits-List, fits-Dict, fits-pair}
use Rattle.packet_frames.specs.Written.{frame_bytes, packet_bytes, MayBeWritten}
use Rattle.hello_caps.specs.declared.caps.HelloFault.{HelloFault}
use Rattle.hello_caps.specs.declared.caps.HelloFault.TheVariants as F
use Rattle.hello_caps.specs.Replies.{codings, reason_of, server_hello_value, goodbye_value}

-- the server's hello
pub exact_hello : spelled (server_hello_value false) ≡ codes "l5:hellod7:bencodei1e9:encodingsl5:rgb32e3:lz4i0e7:rencodei0e7:version1:1ee"
unfolding server_hello_value digits
exact_hello = simp (spelled-Int, spelled-Bytes, spelled-List, spelled-Dict, spelled_pair-record) refl

pub lossy_hello : spelled (server_hello_value true) ≡ codes "l5:hellod7:bencodei1e9:encodingsl5:rgb325:rgb16e3:lz4i0e7:rencodei0e7:version1:1ee"
unfolding server_hello_value digits
lossy_hello = simp (spelled-Int, spelled-Bytes, spelled-List, spelled-Dict, spelled_pair-record) refl

codings_fit : (lossy : Bool) → Fits 30 (V.List (codings lossy))
codings_fit false = fits-List 29 _ (fits-Bytes 29 _ refl, tt)
codings_fit true = fits-List 29 _ (fits-Bytes 29 _ refl, (fits-Bytes 29 _ refl, tt))

hello_fits : (lossy : Bool) → Fits 32 (server_hello_value lossy)
unfolding server_hello_value
hello_fits lossy =
    fits-List 31 _ (
      fits-Bytes 31 _ refl,
      (
        fits-Dict 30 _ (
          fits-pair 30 _ _ refl (fits-Int 30 _ refl),
          (
            fits-pair 30 _ _ refl (codings_fit lossy),
            (
              fits-pair 30 _ _ refl (fits-Int 30 _ refl),
              (
                fits-pair 30 _ _ refl (fits-Int 30 _ refl),
                (fits-pair 30 _ _ refl (fits-Bytes 30 _ refl), tt),
              ),
            ),
          ),
        ),
        tt,
      ),
    )

hello_sized : (lossy : Bool) → length (spelled (server_hello_value lossy)) < 2 ^ 32
hello_sized false = rw exact_hello (omega arith)
hello_sized true = rw lossy_hello (omega arith)

pub hello_written : (lossy : Bool) → MayBeWritten (server_hello_value lossy) None
hello_written lossy = record { limits = hello_fits lossy; sized = hello_sized lossy; chunk_fits = tt }

-- the last packet to a client that is refused
pub not_hello : spelled (goodbye_value F.NotHello) ≡ codes "l10:disconnect9:not helloe"
unfolding goodbye_value digits
not_hello = simp (spelled-Bytes, spelled-List) refl

pub no_encoding : spelled (goodbye_value F.NoEncoding) ≡ codes "l10:disconnect11:no encodinge"
unfolding goodbye_value digits
no_encoding = simp (spelled-Bytes, spelled-List) refl

pub uuid_too_long : (size : ℕ) → spelled (goodbye_value (F.Uuid size)) ≡ codes "l10:disconnect13:uuid too longe"
unfolding goodbye_value digits
uuid_too_long size = simp (spelled-Bytes, spelled-List) refl

reason_fits : (fault : HelloFault) → is_string (reason_of fault) ≡ true
reason_fits F.NotHello = refl
reason_fits F.NoEncoding = refl
reason_fits (F.Uuid size) = refl

goodbye_fits : (fault : HelloFault) → Fits 32 (goodbye_value fault)
unfolding goodbye_value
goodbye_fits fault = fits-List 31 _ (fits-Bytes 31 _ refl, (fits-Bytes 31 _ (reason_fits fault), tt))

goodbye_sized : (fault : HelloFault) → length (spelled (goodbye_value fault)) < 2 ^ 32
goodbye_sized F.NotHello = rw not_hello (omega arith)
goodbye_sized F.NoEncoding = rw no_encoding (omega arith)
goodbye_sized (F.Uuid size) = rw uuid_too_long (omega arith)

pub goodbye_written : (fault : HelloFault) → MayBeWritten (goodbye_value fault) None
goodbye_written fault = record { limits = goodbye_fits fault; sized = goodbye_sized fault; chunk_fits = tt }

-- a packet without a chunk is a header and the spelling
pub bytes_of_spelling : (v : Value) (content : List ℕ) → spelled v ≡ content → packet_bytes v None ≡ frame_bytes 0 content
unfolding packet_bytes
bytes_of_spelling v content e = ap (λ (xs : List ℕ). frame_bytes 0 xs) e
