-- What holds whatever the numbers of two lists holds of some two lists with these coordinates.
use mathlib.Core.Path.{◌≡◌, sym}
use mathlib.Core.List.{List}
use lib.IntN.{ℤ}
use lib.ListN.{length, replicate, length-replicate}
use Rattle.site.specs.Site.{Site}
use Rattle.site.specs.SiteList.{Columns, raised, sites}
use Rattle.order.specs.Lists.{All}
use Rattle.site.specs.Terms.{Level, Coordinates, Heights, Numbered}
use Rattle.site.proofs.SiteList.{sites_length}

-- The columns with each number 0.
zeros : List ℤ → List ℤ → List ℤ → Columns
zeros xs ys hs = raised xs ys (replicate (length xs) 0) hs

zeros_level : {xs ys hs : List ℤ} → Coordinates xs ys → Heights (length xs) hs → Level (zeros xs ys hs)
unfolding zeros All
zeros_level {xs} h k = record { y = sym h.equal; number = length-replicate (length xs) 0; further = (sym k.equal, tt) }

pub numbered_some : {ax ay ah bx by bh : List ℤ} {holds : List Site → List Site → Type 0} → Coordinates ax ay
    → Heights (length ax) ah → Coordinates bx by → Heights (length bx) bh → Numbered ax ay ah bx by bh holds
    → (a : List Site) × (b : List Site) × (length a ≡ length ax) × (length b ≡ length bx) × holds a b
unfolding zeros
numbered_some {ax} {ay} {ah} {bx} {by} {bh} h k g m w =
    let a = zeros ax ay ah in
    let b = zeros bx by bh in
    let p = zeros_level h k in
    let q = zeros_level g m in
    (sites a, sites b, sites_length a p, sites_length b q, w.numbered a.number b.number p q)
