use Rattle.std.proofs.Common.{◌≡◌, ◌⊎◌, ◌++◌, ◌∷◌, [], inl, inr, ◌∙◌, List, ℕ}
use Rattle.vpg_places.specs.Places.{to_line_feed}
use Rattle.vpg_places.proofs.Feeds.{front_at, front_fits}
use Rattle.vpg_places.proofs.lines.front_line.Goals as goal

-- without a carriage return at its end or with it
either : (a b d : List ℕ) → (a ≡ b) ⊎ (a ++ 13 ∷ [] ≡ b) → b ≡ d → (a ≡ d) ⊎ (a ++ 13 ∷ [] ≡ d)
either a b d (inl h) e = inl (h ∙ e)
either a b d (inr h) e = inr (h ∙ e)

pub slice_bounds-bytes-end : goal.slice_bounds-bytes-end
slice_bounds-bytes-end c = front_fits c.args.text.now c.feed_at-end.result c.feed_at-end.ensures

pub returns-then-end-text : goal.returns-then-end-text
returns-then-end-text c =
    either _ _ _ c.without_return.ensures (front_at c.args.text.now c.feed_at-end.result c.feed_at-end.ensures)

pub returns-else-end-text : goal.returns-else-end-text
returns-else-end-text c = inl (front_at c.args.text.now c.feed_at-end.result c.feed_at-end.ensures)
