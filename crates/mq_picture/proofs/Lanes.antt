-- Arrows to one side.
use Rattle.std.proofs.Common.{◌≡◌, ℕ, ◌+◌, ◌-◌, ◌≤◌, List, ◌++◌, map, refl, ap, subst, ◌∙◌, arith}
use Rattle.mq_world.specs.declared.side.Side.{Side}
use Rattle.mq_picture.specs.declared.rows.Flying.{Flying}
use Rattle.mq_picture.specs.declared.rows.Lane.{Lane}
use Rattle.mq_picture.specs.declared.rows.Row.{Row}
use Rattle.mq_picture.specs.Inside.Lanes.{Ends, other, waiting}
use Rattle.mq_picture.specs.Rows.{drawn_to, shown_to}

-- one change after another
pub ends_then : (m n : ℕ) (a b c : Lane) (x y z : List Row) → Ends m a b x y → Ends n b c y z → Ends (m + n) a c x z
ends_then m n a b c x y z h k =
    let side : b.to ≡ a.to = h.to in
    let bytes : shown_to a.to z + c.arrived ≤ shown_to a.to y + b.arrived + n = subst (λ (s : Side). shown_to s z + c.arrived ≤ shown_to s y + b.arrived + n) side k.bytes in
    record {
      to = k.to ∙ h.to;
      packets = subst (λ (s : Side). drawn_to s z ++ waiting c ≡ drawn_to s y ++ waiting b) side k.packets ∙ h.packets;
      bytes = omega (arith, bytes, h.bytes);
      others = subst (λ (s : Side). drawn_to (other s) z ≡ drawn_to (other s) y) side k.others ∙ h.others;
      other_bytes = subst (λ (s : Side). shown_to (other s) z ≡ shown_to (other s) y) side k.other_bytes ∙ h.other_bytes;
      notes = k.notes ∙ h.notes;
      fair = λ f. k.fair (h.fair f);
    }

-- more bytes of the first packet arrived
pub grows_ends : (count : ℕ) (before after : Lane) (rows : List Row) → after.to ≡ before.to → after.packets.items ≡ before.packets.items → after.arrived ≤ before.arrived + count → Ends count before after rows rows
grows_ends count before after rows to items arrived = record {
  to = to;
  packets = ap (λ (fs : List Flying). drawn_to before.to rows ++ map (λ (f : Flying). f.packet) fs) items;
  bytes = omega (arith, arrived);
  others = refl;
  other_bytes = refl;
  notes = refl;
  fair = λ h. h;
}

-- fewer bytes arrived
pub ends_less : (m n : ℕ) (a b : Lane) (x y : List Row) → m ≤ n → Ends m a b x y → Ends n a b x y
ends_less m n a b x y less h = record {
  to = h.to;
  packets = h.packets;
  bytes = omega (arith, less, h.bytes);
  others = h.others;
  other_bytes = h.other_bytes;
  notes = h.notes;
  fair = h.fair;
}

-- the missing bytes of the first packet arrived, and it became an arrow
pub more_ends : (count left missing : ℕ) (first mid grown after : Lane) (x y z : List Row) → missing ≤ left → left ≤ count → Ends (count - left) first mid x y → grown.to ≡ mid.to → grown.packets.items ≡ mid.packets.items → grown.arrived ≤ mid.arrived + missing
    → Ends 0 grown after y z → (left - missing ≤ count) × Ends (count - (left - missing)) first after x z
more_ends count left missing first mid grown after x y z enough less h to items arrived k =
    let step : Ends (count - left + missing) first grown x y = ends_then (count - left) missing first mid grown x y y h (grows_ends missing mid grown y to items arrived) in
    (omega (arith, less), ends_less (count - left + missing + 0) (count - (left - missing)) first after x z (omega (arith, less, enough)) (ends_then (count - left + missing) 0 first grown after x y z step k))
