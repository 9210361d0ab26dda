-- Printed text has printing characters only.
use Rattle.std.proofs.Common.{◌≡◌, ℕ, zero, suc, ◌/◌, ◌%◌, ◌<◌, ◌≤◌, Bool, true, false, ◌==◌, ◌&&◌, not, nat_le, if◌then◌else◌, List, [], ◌∷◌, ◌++◌, refl, codes, arith}
use Rattle.std.proofs.lemmas.Bool.Decides.{nat_tests}
use Rattle.std.proofs.lemmas.List.Folds.{list_all-append}
use Rattle.std.specs.List.{list_all}
use Rattle.std.specs.Fmt.{decimal, digits, digits_onto, digit_glyph}
use Rattle.mq_packet.specs.Codes.{refusal_number}
use Rattle.mq_packet.specs.declared.connack.RefusalCode.{RefusalCode}
use Rattle.mq_packet.specs.declared.connack.RefusalCode.TheVariants as refusals
use Rattle.mq_end.specs.declared.reason.CloseReason.TheVariants as ends
use Rattle.mq_route.specs.declared.close.HubClose.{HubClose}
use Rattle.mq_route.specs.declared.close.HubClose.TheVariants as closes
use Rattle.mq_packet.specs.Lines.{escaped, escaped_byte, byte_digits}
use Rattle.mq_status.specs.Log.{LogLaws, close_text, refusal_text, refusal_words, line_text, is_visible}
use Rattle.mq_status.specs.declared.log.LogLine.{LogLine}
use Rattle.mq_status.specs.declared.log.LogLine.TheVariants as lines

-- each byte is a space or a printing character
abbrev IsVisible : List ℕ → Type 0
IsVisible text = list_all is_visible text ≡ true

both : (xs ys : List ℕ) → IsVisible xs → IsVisible ys → IsVisible (xs ++ ys)
both xs ys left right = rw (list_all-append is_visible xs ys, left) right

either : (test : Bool) (xs ys : List ℕ) → (test ≡ true → IsVisible xs) → IsVisible ys
    → IsVisible (if test then xs else ys)
either true xs ys here there = here refl
either false xs ys here there = there

glyph : (d : ℕ) → d < 16 → is_visible (digit_glyph false d) ≡ true
glyph d low = grind (arith, nat_tests)

onto : (k base n : ℕ) (acc : List ℕ) → 0 < base → base ≤ 16 → IsVisible acc
    → IsVisible (digits_onto k base false n acc)
onto zero base n acc low high h = h
onto (suc k) base n acc low high h =
    let fits : n % base < 16 = omega arith in
    let here : IsVisible (digit_glyph false (n % base) ∷ acc) = rw (glyph (n % base) fits) h in
    either (n / base == 0) (digit_glyph false (n % base) ∷ acc) (digits_onto k base false (n / base) (digit_glyph false (n % base) ∷ acc)) (λ is. here) (onto k base (n / base) _ low high here)

digits_visible : (base n : ℕ) → 0 < base → base ≤ 16 → IsVisible (digits base false n)
unfolding digits
digits_visible base n low high = onto 64 base n [] low high refl

decimal_visible : (n : ℕ) → IsVisible (decimal n)
decimal_visible n = digits_visible 10 n (omega arith) (omega arith)

byte_visible : (byte : ℕ) → IsVisible (escaped_byte byte)
byte_visible byte =
    let digits_are : IsVisible (byte_digits byte) =
    both (digits 16 false (byte / 16)) (digits 16 false (byte % 16)) (digits_visible 16 (byte / 16) (omega arith) (omega arith)) (digits_visible 16 (byte % 16) (omega arith) (omega arith)) in
    either (nat_le 33 byte && nat_le byte 126 && not (byte == 37)) (byte ∷ []) (codes "%" ++ byte_digits byte)
    (λ is. grind (arith, nat_tests)) (both (codes "%") (byte_digits byte) refl digits_are)

escaped_visible : (text : List ℕ) → IsVisible (escaped text)
escaped_visible [] = refl
escaped_visible (byte ∷ rest) = both (escaped_byte byte) (escaped rest) (byte_visible byte) (escaped_visible rest)

close_visible : (reason : HubClose) → IsVisible (close_text reason)
close_visible (closes.Own (ends.Fault fault)) = refl
close_visible (closes.Own ends.Unexpected) = refl
close_visible (closes.Own (ends.Refused code)) = refl
close_visible (closes.Own ends.SessionLost) = refl
close_visible (closes.Own ends.KeepAlive) = refl
close_visible (closes.Own ends.Memory) = refl
close_visible (closes.Own ends.Left) = refl
close_visible (closes.Own ends.Window) = refl
close_visible closes.TargetFull = refl
close_visible closes.TakenOver = refl
close_visible closes.PeerEnded = refl
close_visible closes.NoConnect = refl
close_visible closes.TooManyMatches = refl

words_visible : (code : RefusalCode) → IsVisible (refusal_words code)
words_visible refusals.UnacceptableProtocolVersion = refl
words_visible refusals.IdentifierRejected = refl
words_visible refusals.ServerUnavailable = refl
words_visible refusals.BadUserNameOrPassword = refl
words_visible refusals.NotAuthorized = refl

-- a label and a value before more
labelled : (label value more : List ℕ) → IsVisible label → IsVisible value → IsVisible more
    → IsVisible (label ++ (value ++ more))
labelled label value more first second third = both label (value ++ more) first (both value more second third)

refusal_visible : (code : RefusalCode) → IsVisible (refusal_text code)
refusal_visible code =
    labelled (codes " code=") (decimal (refusal_number code)) (codes " reason=\"" ++ (refusal_words code ++ codes "\""))
    refl (decimal_visible (refusal_number code))
    (labelled (codes " reason=\"") (refusal_words code) (codes "\"") refl (words_visible code) refl)

visible : (line : LogLine) → IsVisible (line_text line)
visible (lines.Connected client address) =
    labelled (codes "connected client=") (escaped client.now) (codes " address=" ++ escaped address.now)
    refl (escaped_visible client.now) (both (codes " address=") (escaped address.now) refl (escaped_visible address.now))
visible (lines.ClosedEarly address reason) =
    labelled (codes "closed address=") (escaped address.now) (close_text reason) refl (escaped_visible address.now) (close_visible reason)
visible (lines.Closed client reason) =
    labelled (codes "closed client=") (escaped client.now) (close_text reason) refl (escaped_visible client.now) (close_visible reason)
visible (lines.SessionEnded client) = both (codes "session-ended client=") (escaped client.now) refl (escaped_visible client.now)
visible (lines.Missed client messages) =
    labelled (codes "missed client=") (escaped client.now) (codes " messages=" ++ decimal messages)
    refl (escaped_visible client.now) (both (codes " messages=") (decimal messages) refl (decimal_visible messages))
visible (lines.Refused address code) =
    labelled (codes "refused address=") (escaped address.now) (refusal_text code) refl (escaped_visible address.now) (refusal_visible code)
visible (lines.Slow client pending) =
    labelled (codes "slow client=") (escaped client.now) (codes " pending=" ++ decimal pending)
    refl (escaped_visible client.now) (both (codes " pending=") (decimal pending) refl (decimal_visible pending))

pub log_laws : LogLaws
log_laws = record { visible = visible }
