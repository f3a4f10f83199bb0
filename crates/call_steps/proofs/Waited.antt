-- A turn that got the book behind turns that did not.
--     turned_since      what it tells, it tells of the pass before them
use Rattle.std.specs.Prelude.{◌≡◌, ℕ, Option}
use Rattle.std.proofs.Common.{sym, ◌∙◌, ap, subst}
use Rattle.row_layout.specs.declared.places.Layout.{Layout}
use Rattle.row_table.specs.Books.{Learns, turned}
use Rattle.row_table.specs.Known.{IsRight}
use Rattle.machine_plan.specs.Books.{BookData}
use Rattle.machine_plan.specs.Follows.{machine}
use Rattle.call_steps.specs.Ready.{View}
use Rattle.call_steps.specs.Turned.{HasTurned}

abbrev pub tried : View → Option ℕ → View
tried v n = record v { turn = n }

module _ (v : View) (n : Option ℕ) where
  right_before : IsRight (tried v n) → IsRight v
  right_before r = record { levels = r.levels; number = r.number; rows = r.rows; once = r.once; long = r.long; hand = r.hand; parity = r.parity; bounded = r.bounded }

  learns_before : (count : ℕ) (b : BookData) → Learns machine count (tried v n) b → Learns machine count v b
  learns_before count b l = record {
    right = right_before l.right;
    seen = l.seen;
    mine = l.mine;
    fixed = l.fixed;
    agree = λ h has linked. let o = l.agree h has linked in record { found = o.found; given = o.given };
    hand = l.hand;
    once = l.once;
    there = l.there;
    apart = l.apart;
  }

-- u: the pass before the turn that got the book
pub turned_since : (k : Layout) (v u w : View) (n : Option ℕ) (b : BookData) → u ≡ tried v n → u.layout ≡ k → Learns machine k.rows u b → w ≡ turned machine u b → HasTurned k v b w
turned_since k v u w n b since layout learns after = record {
  layout = ap (λ (x : View). x.layout) (sym since) ∙ layout;
  learns = learns_before v n k.rows b (subst (λ (x : View). Learns machine k.rows x b) since learns);
  view = after ∙ ap (λ (x : View). turned machine x b) since;
}
