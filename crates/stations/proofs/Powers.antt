-- All stations have power by their numbers as they do one after the other.
use Rattle.std.proofs.Common.{◌≡◌, List, length, refl, sym, ap, ◌∙◌}
use Rattle.std.proofs.lemmas.List.Folds.{list_all-map}
use Rattle.std.proofs.lemmas.List.FromFn.{fill_by_all}
use Rattle.std.specs.List.{list_all, range_with_len}
use Rattle.stations.specs.Stations.{station_at, no_station, all_power}
use Rattle.stations.specs.declared.Station.{Station}

pub all_power-every : (xs : List Station) → all_power xs (range_with_len 0 (length xs)) ≡ list_all (λ (x : Station). x.power) xs
unfolding all_power
all_power-every xs =
    sym (list_all-map (λ (x : Station). x.power) (station_at xs) (range_with_len 0 (length xs)))
    ∙ ap (list_all (λ (x : Station). x.power)) (sym (fill_by_all (station_at xs) xs (length xs) no_station refl (λ k h. refl)))
