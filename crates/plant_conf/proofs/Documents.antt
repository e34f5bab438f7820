-- Lists of what the tables of a document say.
use Rattle.std.proofs.Common.{◌≡◌, List, [], ◌∷◌, map, refl, ap, arith}
use Rattle.plant_conf.specs.declared.conf.LinkConf.{LinkConf}
use Rattle.plant_conf.specs.Values.{link_values}
use Rattle.std.proofs.lemmas.Grind.{common_steps}

pub map_itself : {A : Type 0} (xs : List A) → map (λ x. x) xs ≡ xs
map_itself xs = grind (arith, common_steps)

pub ids_of_values : (links : List LinkConf) → map (λ link. link.keys.id) (map link_values links) ≡ map (λ link. link.master.conn) links
ids_of_values [] = refl
ids_of_values (link ∷ links) = ap (λ ids. link.master.conn ∷ ids) (ids_of_values links)
