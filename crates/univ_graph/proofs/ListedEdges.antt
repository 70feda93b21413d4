-- Each edge stays in the list of its place, at either end of the edges: where lists keep what they had, and with one more edge.
use Rattle.std.proofs.Common.{◌≡◌, inl, inr, ℕ, List, [], ◌∷◌, ◌++◌, length, Bool, true, false, sym, subst, if◌then◌else◌}
use Rattle.std.specs.Prelude.{Contains}
use Rattle.std.specs.Global.{Vec}
use Rattle.univ_graph.specs.declared.board.Edge.{Edge}
use Rattle.univ_graph.specs.calls.Boards.{edges_at, near, AreListed}
use Rattle.univ_nodes.proofs.ListLaws.{AreKept}
use Rattle.univ_nodes.proofs.AtPlaces.{get_more}

pub listed_kept : (up : Bool) (old new : List (Vec ℕ)) (edges : List Edge) → AreKept old new → AreListed up old edges → AreListed up new edges
listed_kept up old new edges kept h k r is = kept (near up r) k (h k r is)

listed_more : (up : Bool) (lists : List (Vec ℕ)) (edges : List Edge) (edge : Edge) → AreListed up lists edges → Contains (edges_at lists (near up edge)) (length edges) →
    AreListed up lists (edges ++ edge ∷ [])
listed_more up lists edges edge h last k r is = elim (get_more edges edge r k is) [
  | inl old ↦ h k r old
  | inr new ↦ subst (λ z. Contains (edges_at lists (near up z)) k) new.1 (subst (λ z. Contains (edges_at lists (near up edge)) z) (sym new.0) last)
]

-- One more edge, or none.
pub listed_push : (up t : Bool) (old new : List (Vec ℕ)) (edges edges' : List Edge) (edge : Edge) → AreKept old new → Contains (edges_at new (near up edge)) (length edges) →
    edges' ≡ (if t then edges ++ edge ∷ [] else edges) → AreListed up old edges → AreListed up new edges'
listed_push up true old new edges edges' edge kept last is h =
    subst (λ z. AreListed up new z) (sym is) (listed_more up new edges edge (listed_kept up old new edges kept h) last)
listed_push up false old new edges edges' edge kept last is h = subst (λ z. AreListed up new z) (sym is) (listed_kept up old new edges kept h)
