-- The names that proofs of this crate cite most, handed on from one place. Declares nothing.
pub use Rattle.hn_advert.specs.Advert.{AreOptions, IsAdvert, info_of, options_bytes}
pub use Rattle.hn_advert.specs.Fault.{AdvertFault, HasWholeOption, IsFirstOptionFault, IsOptionFault}
pub use Rattle.hn_advert.specs.Layout.{IsHeader, IsNdOption, NdOption, OtherOption, PrefixOption, header_bytes, option_bytes}
pub use Rattle.hn_advert.specs.Reading.{HasHeaderFirst, HasInfos, HasOptionFirst, HasOptions}
pub use Rattle.hn_advert.specs.declared.advert.Advert.{Advert}
pub use Rattle.hn_advert.specs.declared.advert.Info.{Info}
pub use Rattle.hn_advert.specs.declared.fault.RaFault.{RaFault}
pub use Rattle.hn_advert.specs.declared.header.Fixed.{Fixed}
pub use Rattle.hn_base.proofs.BigEndian.{AreOctets, octets}
pub use Rattle.hn_base.proofs.EachByRecursion.{AllByRecursion-append}
pub use Rattle.std.proofs.lemmas.List.{length-append}
